-- How accepted events, with their answers and the frames that were sent, tell a history: each event
-- adds its happenings in their order, and then each frame that it sent with an object adds one
-- Sent.
use Rattle.std.specs.Prelude.{◌≡◌, ℕ, ◌+◌, List, [], ◌∷◌, ◌++◌, length, Option, Some, None}
use Rattle.std.specs.Option.{option_flatten}
use Rattle.meta_types.specs.Name.{Key}
use Rattle.dvvset.specs.Object.{Entry}
use Rattle.meta_frame.specs.Frame.{Spells}
use Rattle.meta_frame.specs.declared.message.Frame.{Frame}
use Rattle.past_model.specs.declared.happening.Happening.{Happening}
use Rattle.past_model.specs.declared.happening.Happening.TheVariants.{Wrote, Looked, Sent, Got, Kept, Restarted}
use Rattle.node_core.specs.Leaving.{carried_object}
use Rattle.node_events.specs.declared.event.NodeEvent.{NodeEvent}
use Rattle.node_events.specs.declared.event.NodeEvent.TheVariants.{Read, Write, PutOver, Take, Keep}
use Rattle.world_core.specs.declared.answer.Accepted.{Accepted}
use Rattle.world_core.specs.declared.event.Event.{Event}
use Rattle.world_core.specs.declared.event.Event.TheVariants as events
use Rattle.world_core.specs.Numbers.{frames_at, numbered}
use Rattle.world_core.specs.Events.{node_of_event}

-- what was told so far: the history; of each read, by its number from 1, the place of its Looked;
-- of each frame, by its number from 1, the place of its Sent, or none if it carries no object
pub record Told : Type 0 where
  pub history : List Happening
  pub looks : List ℕ
  pub sendings : List (Option ℕ)

abbrev pub nothing_told : Told
nothing_told = record { history = []; looks = []; sendings = [] }

-- ---- happenings

abbrev pub tell : Happening → Told → Told
tell h t = record t { history = t.history ++ h ∷ [] }

-- a read, which has the next read number
abbrev pub tell_look : ℕ → Key → Told → Told
tell_look n k t = record t {
  history = t.history ++ Looked n k ∷ [];
  looks = t.looks ++ length t.history ∷ [];
}

-- the place of the Sent that a frame number names, if that frame carries an object
abbrev pub sending_of : Told → ℕ → Option ℕ
sending_of t frame = option_flatten (numbered t.sendings frame)

abbrev pub tell_got : ℕ → Option ℕ → Told → Told
tell_got n None t = t
tell_got n (Some place) t = tell (Got n place) t

-- ---- events and frames

-- what a node tells by what it is asked; all but these tell nothing, and no write that is accepted
-- so has read anything
abbrev pub tell_step : ℕ → NodeEvent → Told → Told
tell_step n (Read k) t = tell_look n k t
tell_step n (Write k v context) t = tell (Wrote n k v None) t
tell_step n (PutOver k v) t = tell (Wrote n k v (Some (length t.history))) (tell_look n k t)
tell_step n (Keep k) t = tell (Kept n k) t
tell_step n event t = t

-- what an event tells, before what it sends
abbrev pub tell_event : Event → Told → Told
tell_event (events.Step n event) t = tell_step n event t
tell_event (events.Put n k v read) t = tell (Wrote n k v (numbered t.looks read)) t
tell_event (events.Deliver frame n word) t = tell_got n (sending_of t frame) t
tell_event (events.Restart n image) t = tell (Restarted n image) t

-- a frame of the node: a Sent, if it carries an object
abbrev pub tell_sending : ℕ → Option (Key × List Entry) → Told → Told
tell_sending n None t = record t { sendings = t.sendings ++ None ∷ [] }
tell_sending n (Some object) t = record t {
  history = t.history ++ Sent n object.0 ∷ [];
  sendings = t.sendings ++ Some (length t.history) ∷ [];
}

-- the node's frames, in their order
abbrev pub tell_frames : ℕ → List Frame → Told → Told
tell_frames n [] t = t
tell_frames n (f ∷ fs) t = tell_frames n fs (tell_sending n (carried_object f.message) t)

-- ---- accepted events

abbrev pub tell_accepted : List Frame → Accepted → Told → Told
tell_accepted frames a t =
    tell_frames (node_of_event a.event) (frames_at a.answer.sent frames) (tell_event a.event t)

abbrev pub tell_each : List Frame → List Accepted → Told → Told
tell_each frames [] t = t
tell_each frames (a ∷ later) t = tell_each frames later (tell_accepted frames a t)

abbrev pub tell_all : List Frame → List Accepted → Told
tell_all frames accepted = tell_each frames accepted nothing_told

-- ---- what accepted events agree to

-- the lists are of one length, and the relation holds one by one
abbrev pub Pairwise : {A B : Type 0} → (A → B → Type 0) → List A → List B → Type 0
Pairwise P [] [] = Unit {0}
Pairwise P [] (y ∷ ys) = ⊥
Pairwise P (x ∷ xs) [] = ⊥
Pairwise P (x ∷ xs) (y ∷ ys) = P x y × Pairwise P xs ys

-- after `sent` frames, each event sent those with the next numbers, and in the end there are `all`
abbrev pub SendInOrder : ℕ → List Accepted → ℕ → Type 0
SendInOrder sent [] all = all ≡ sent
SendInOrder sent (a ∷ later) all =
    (a.answer.sent.first ≡ sent + 1) × SendInOrder (sent + a.answer.sent.count) later all

-- a write names an earlier read, a delivery an earlier frame; a context and bytes that are handed
-- in by hand are never accepted
abbrev pub NamesEarlier : Told → Event → Type 0
NamesEarlier t (events.Put n k v read) = (place : ℕ) × (numbered t.looks read ≡ Some place)
NamesEarlier t (events.Deliver frame n word) =
    (sending : Option ℕ) × (numbered t.sendings frame ≡ Some sending)
NamesEarlier t (events.Step n (Write k v (Some context))) = ⊥
NamesEarlier t (events.Step n (Take bytes word)) = ⊥
NamesEarlier t event = Unit {0}

-- an event that reads is answered with the next read number, any other with none
abbrev pub next_read : Told → Event → Option ℕ
next_read t (events.Step n (Read k)) = Some (length t.looks + 1)
next_read t (events.Step n (PutOver k v)) = Some (length t.looks + 1)
next_read t event = None

-- each event names what is earlier, and has its read number, by what was told when it came
abbrev pub EachNames : List Frame → List Accepted → Told → Type 0
EachNames frames [] t = Unit {0}
EachNames frames (a ∷ later) t =
    (NamesEarlier t a.event × (a.answer.read ≡ next_read t a.event))
    × EachNames frames later (tell_accepted frames a t)

-- the accepted events tell all this, by the frames whose bytes were sent: each frame is sent once,
-- in the order of its number, and each event names what is there
pub record Tells (accepted : List Accepted) (spellings : List (List ℕ)) (t : Told) : Type 0 where
  pub frames : List Frame
  pub spelled : Pairwise Spells frames spellings
  pub in_order : SendInOrder 0 accepted (length frames)
  pub names : EachNames frames accepted nothing_told
  pub tells : tell_all frames accepted ≡ t
