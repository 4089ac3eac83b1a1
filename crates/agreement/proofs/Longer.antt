-- A world after a run: what it was is in front of what it is, and so is its history.
use Rattle.std.proofs.Common.{◌≡◌, ℕ, eqb, List, [], ◌∷◌, ◌++◌, length, append-nil, append_assoc, Option, Some, None, Ok, refl, sym, ap, subst, ◌∙◌}
use Rattle.std.proofs.lemmas.Bool.{eqb-false, or_parts}
use Rattle.std.proofs.lemmas.List.{length-set}
use Rattle.meta_types.specs.Name.{Key}
use Rattle.dvvset.specs.Object.{Entry}
use Rattle.meta_frame.specs.Frame.{Spells}
use Rattle.meta_frame.specs.declared.message.Frame.{Frame}
use Rattle.past_model.specs.declared.happening.Happening.{Happening}
use Rattle.past_model.specs.declared.happening.Happening.TheVariants.{Wrote, Looked, Sent, Got, Kept, Restarted}
use Rattle.node_core.specs.Leaving.{carried_object}
use Rattle.world_core.specs.declared.answer.Accepted.{Accepted}
use Rattle.world_core.specs.declared.event.Event.{Event}
use Rattle.node_events.specs.declared.event.NodeEvent.{NodeEvent}
use Rattle.node_events.specs.declared.event.NodeEvent.TheVariants as OfNode
use Rattle.world_core.specs.declared.event.Event.TheVariants as events
use Rattle.world_core.specs.Events.{node_of_event}
use Rattle.world_core.specs.Knowledge.{ShowWhatTheyKnow}
use Rattle.world_core.specs.Numbers.{frames_at, numbered}
use Rattle.world_core.specs.Outcome.{Outcome}
use Rattle.world_core.specs.Refusal.{doing_in, node_at}
use Rattle.world_core.specs.Tells.{Pairwise, Tells, Told, nothing_told, sending_of, tell_accepted, tell_each, tell_event, tell_frames, tell_got, tell_look, tell_sending, tell_step}
use Rattle.world_core.specs.World.{World}
use Rattle.world_core.proofs.Telling.{one_spelling, tell_each_more}
use Rattle.agreement.specs.World.{AcceptsAll, IsIdle}
use Rattle.agreement.proofs.Moving.{Changes, changes, elsewhere}

-- ---- the lists of a world

-- the events of the run stand behind all others, and what they sent behind all frames
pub record Grown (old : World) (run : List Accepted) (new : World) : Type 0 where
  pub many : length new.nodes ≡ length old.nodes
  pub accepted : new.accepted ≡ old.accepted ++ run
  pub more : List (List ℕ)
  pub frames : new.frames ≡ old.frames ++ more

-- one event
pub grown_one : (old new : World) (a : Accepted) → Outcome old a.event (Ok a.answer) new → Grown old (a ∷ []) new
unfolding Outcome
grown_one old new a accepts =
    let c : Changes old (node_of_event a.event) a.answer new = changes old (node_of_event a.event) (doing_in old a.event) a.answer new accepts.makes in
    record {
      many = ap length c.nodes ∙ length-set old.nodes (node_of_event a.event) c.node;
      accepted = accepts.accepted;
      more = c.more;
      frames = c.frames;
    }

-- two runs
pub grown_on : (old mid new : World) (first later : List Accepted) → Grown old first mid → Grown mid later new → Grown old (first ++ later) new
grown_on old mid new first later g h = record {
  many = h.many ∙ g.many;
  accepted = h.accepted ∙ ap (λ xs. xs ++ later) g.accepted ∙ append_assoc old.accepted first later;
  more = g.more ++ h.more;
  frames = h.frames ∙ ap (λ xs. xs ++ h.more) g.frames ∙ append_assoc old.frames g.more h.more;
}

-- no event
pub grown_none : (w : World) → Grown w [] w
grown_none w = record { many = refl; accepted = sym (append-nil w.accepted); more = []; frames = sym (append-nil w.frames) }

pub grown : (old : World) (run : List Accepted) (new : World) → AcceptsAll old run new → Grown old run new
grown old [] new accepts = subst (Grown old []) (sym accepts) (grown_none old)
grown old (a ∷ run) new accepts = grown_on old accepts.0 new (a ∷ []) run (grown_one old accepts.0 a accepts.1.0.comes) (grown accepts.0 run new accepts.1.1)

-- a node of which there is no event is as before
pub idle_node : (n : ℕ) (old : World) (run : List Accepted) (new : World) → AcceptsAll old run new → IsIdle n run → node_at new n ≡ node_at old n
unfolding Outcome
idle_node n old [] new accepts idle = ap (λ w. node_at w n) accepts
idle_node n old (a ∷ run) new accepts idle =
    let its : ℕ = node_of_event a.event in
    let parts = or_parts (eqb (node_of_event a.event) n) _ idle in
    let c : Changes old (node_of_event a.event) a.answer accepts.0 = changes old (node_of_event a.event) (doing_in old a.event) a.answer accepts.0 accepts.1.0.comes.makes in
    idle_node n accepts.0 run new accepts.1.1 parts.1
    ∙ elsewhere old (node_of_event a.event) a.answer accepts.0 c n (λ same. eqb-false (node_of_event a.event) n parts.0 (sym same))

-- at the end each node shows what it knows
pub shows_end : (old : World) (run : List Accepted) (new : World) → ShowWhatTheyKnow old → AcceptsAll old run new → ShowWhatTheyKnow new
shows_end old [] new shows accepts = subst ShowWhatTheyKnow (sym accepts) shows
shows_end old (a ∷ run) new shows accepts = shows_end accepts.0 run new accepts.1.0.shows accepts.1.1

-- ---- what is told

-- the history of the one is in front of that of the other
pub record IsLater (t u : Told) : Type 0 where
  pub more : List Happening
  pub longer : u.history ≡ t.history ++ more

same_time : (t : Told) → IsLater t t
same_time t = record { more = []; longer = sym (append-nil t.history) }

later_on : (t u v : Told) → IsLater t u → IsLater u v → IsLater t v
later_on t u v l m = record { more = l.more ++ m.more; longer = m.longer ∙ ap (λ hs. hs ++ m.more) l.longer ∙ append_assoc t.history l.more m.more }

by_delivery : (n : ℕ) (place : Option ℕ) (t : Told) → IsLater t (tell_got n place t)
by_delivery n None t = same_time t
by_delivery n (Some place) t = record { more = Got n place ∷ []; longer = refl }

by_step : (n : ℕ) (event : NodeEvent) (t : Told) → IsLater t (tell_step n event t)
by_step n (OfNode.Read k) t = record { more = Looked n k ∷ []; longer = refl }
by_step n (OfNode.Write k v context) t = record { more = Wrote n k v None ∷ []; longer = refl }
by_step n (OfNode.PutOver k v) t =
    later_on t (tell_look n k t) (tell_step n (OfNode.PutOver k v) t) (record { more = Looked n k ∷ []; longer = refl })
    (record { more = Wrote n k v (Some (length t.history)) ∷ []; longer = refl })
by_step n (OfNode.Keep k) t = record { more = Kept n k ∷ []; longer = refl }
by_step n _ t = same_time t

by_event : (event : Event) (t : Told) → IsLater t (tell_event event t)
by_event (events.Step n event) t = by_step n event t
by_event (events.Put n k v read) t = record { more = Wrote n k v (numbered t.looks read) ∷ []; longer = refl }
by_event (events.Deliver frame n word) t = by_delivery n (sending_of t frame) t
by_event (events.Restart n image) t = record { more = Restarted n image ∷ []; longer = refl }

by_sending : (n : ℕ) (object : Option (Key × List Entry)) (t : Told) → IsLater t (tell_sending n object t)
by_sending n None t = record { more = []; longer = sym (append-nil t.history) }
by_sending n (Some object) t = record { more = Sent n object.0 ∷ []; longer = refl }

by_frames : (n : ℕ) (fs : List Frame) (t : Told) → IsLater t (tell_frames n fs t)
by_frames n [] t = same_time t
by_frames n (f ∷ fs) t =
    let next : Told = tell_sending n (carried_object f.message) t in
    later_on t next (tell_frames n fs next) (by_sending n (carried_object f.message) t) (by_frames n fs next)

by_each : (frames : List Frame) (run : List Accepted) (t : Told) → IsLater t (tell_each frames run t)
by_each frames [] t = same_time t
by_each frames (a ∷ run) t =
    let told : Told = tell_event a.event t in
    let next : Told = tell_accepted frames a t in
    later_on t next (tell_each frames run next)
    (later_on t told next (by_event a.event t) (by_frames (node_of_event a.event) (frames_at a.answer.sent frames) told))
    (by_each frames run next)

-- ---- what a longer run tells

-- what stands beside two lists stands beside each
record Parted {A B : Type 0} (P : A → B → Type 0) (xs : List A) (ys zs : List B) : Type 0 where
  front : List A
  back : List A
  whole : xs ≡ front ++ back
  fits : Pairwise P front ys

parted : {A B : Type 0} (P : A → B → Type 0) (xs : List A) (ys zs : List B) → Pairwise P xs (ys ++ zs) → Parted P xs ys zs
parted P xs [] zs all = record { front = []; back = xs; whole = refl; fits = tt }
parted P [] (y ∷ ys) zs all = absurd all
parted P (x ∷ xs) (y ∷ ys) zs all =
    let rest = parted P xs ys zs all.1 in
    record { front = x ∷ rest.front; back = rest.back; whole = ap (λ l. x ∷ l) rest.whole; fits = (all.0, rest.fits) }

pub each_append : (frames : List Frame) (first later : List Accepted) (t : Told) → tell_each frames (first ++ later) t ≡ tell_each frames later (tell_each frames first t)
each_append frames [] later t = refl
each_append frames (a ∷ first) later t = each_append frames first later (tell_accepted frames a t)

-- by the frames of a later world the events of an earlier one tell what they told
pub told_still : (old : World) (run : List Accepted) (new : World) → Grown old run new → (t u : Told) → Tells old.accepted old.frames t → (also : Tells new.accepted new.frames u)
    → tell_each also.frames old.accepted nothing_told ≡ t
told_still old run new g t u tells also =
    let p = parted Spells also.frames old.frames g.more (subst (Pairwise Spells also.frames) g.frames also.spelled) in
    let same : p.front ≡ tells.frames = one_spelling p.front tells.frames old.frames p.fits tells.spelled in
    let all : also.frames ≡ tells.frames ++ p.back = p.whole ∙ ap (λ fs. fs ++ p.back) same in
    ap (λ fs. tell_each fs old.accepted nothing_told) all ∙ tell_each_more tells.frames p.back 0 old.accepted nothing_told tells.in_order ∙ tells.tells

-- what a world told is in front of what it tells after a run
pub told_later : (old : World) (run : List Accepted) (new : World) → Grown old run new → (t u : Told) → Tells old.accepted old.frames t → Tells new.accepted new.frames u → IsLater t u
told_later old run new g t u tells also =
    let after : tell_each also.frames run t ≡ u =
    sym (ap (tell_each also.frames run) (told_still old run new g t u tells also)) ∙ sym (each_append also.frames old.accepted run nothing_told)
    ∙ sym (ap (λ xs. tell_each also.frames xs nothing_told) g.accepted) ∙ also.tells in
    subst (IsLater t) after (by_each also.frames run t)
