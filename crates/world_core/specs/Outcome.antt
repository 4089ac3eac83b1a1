-- What a world answers to an event, and what it then is.
use Rattle.std.specs.Prelude.{◌≡◌, ◌≢◌, ℕ, ◌+◌, List, [], ◌∷◌, ◌++◌, length, slice_set, Option, Some, None, Result, Ok, Err, ◌⊎◌, IfOk}
use Rattle.meta_store.specs.Context.{Reading}
use Rattle.meta_store.specs.declared.fault.StoreFault.TheVariants.{BadEntries}
use Rattle.node_core.specs.declared.state.Stepped.{Stepped}
use Rattle.node_core.specs.Node.{NodeParts}
use Rattle.node_core.specs.Step.{IsNodeStep}
use Rattle.node_events.specs.Event.{stored_key}
use Rattle.node_events.specs.declared.event.NodeEvent.{NodeEvent}
use Rattle.node_events.specs.declared.fault.StepFault.TheVariants as OfStep
use Rattle.node_events.specs.declared.reply.Reply.TheVariants.{Done}
use Rattle.restart_images.specs.Node.{ImagedNode, IsRestarted, arrived, context_read}
use Rattle.world_core.specs.declared.answer.Answer.{Answer}
use Rattle.world_core.specs.declared.answer.FrameNumbers.{FrameNumbers}
use Rattle.world_core.specs.declared.event.Event.{Event}
use Rattle.world_core.specs.declared.fault.WorldFault.{WorldFault}
use Rattle.world_core.specs.declared.fault.WorldFault.TheVariants.{Memory, Step as OfStepFault}
use Rattle.world_core.specs.Events.{Begin, Doing, Step, node_of_event}
use Rattle.world_core.specs.Numbers.{frames_at}
use Rattle.world_core.specs.World.{World, deeds_in}
use Rattle.world_core.specs.Knowledge.{FreshExactly, ShowWhatTheyKnow}
use Rattle.world_core.specs.Refusal.{RefusesEvent, doing_in, node_at}

-- the nodes, with this one at n and all others as before
abbrev pub with_node : World → ℕ → ImagedNode → List ImagedNode
with_node w n node = slice_set w.nodes n node

-- the number that a read gets after these, if there is one
abbrev pub read_after : List Reading → Option Reading → Option ℕ
read_after contexts None = None
read_after contexts (Some context) = Some (length contexts + 1)

-- none or one, as a list
abbrev pub list_of : {A : Type 0} → Option A → List A
list_of None = []
list_of (Some x) = x ∷ []

-- `count` frames get the next numbers
abbrev pub next_frames : World → ℕ → FrameNumbers
next_frames w count = record { first = length w.frames + 1; count = count }

-- ---- a step of a node

-- the node makes its step, and if it wrote or kept, an image stands beside it; what the step sent
-- has the next numbers, and the context of its read, if it was one, the next read number
pub record MakesStep (old : World) (n : ℕ) (step : NodeEvent) (answer : Answer) (new : World)
    : Type 0 where
  pub state : NodeParts
  pub given : Stepped
  pub makes : IsNodeStep (node_at old n).state step state given
  pub nodes : new.nodes ≡ with_node old n (arrived state (stored_key step) (node_at old n))
  pub frames : new.frames ≡ old.frames ++ given.outbox
  pub contexts : new.contexts ≡ old.contexts ++ list_of (context_read step (node_at old n).state)
  pub answers : answer ≡ record {
    reply = given.reply;
    read = read_after old.contexts (context_read step (node_at old n).state);
    sent = next_frames old (length given.outbox);
  }

-- ---- a restart

-- the node begins its next life from the image, and nothing is sent
pub record MakesRestart (old : World) (n image : ℕ) (answer : Answer) (new : World) : Type 0 where
  pub node : ImagedNode
  pub restarts : IsRestarted (node_at old n) image node
  pub nodes : new.nodes ≡ with_node old n node
  pub frames : new.frames ≡ old.frames
  pub contexts : new.contexts ≡ old.contexts
  pub answers : answer ≡ record { reply = Done; read = None; sent = next_frames old 0 }

-- ---- an event

abbrev pub Makes : World → ℕ → Doing → Answer → World → Type 0
Makes old n (Step step) answer new = MakesStep old n step answer new
Makes old n (Begin image) answer new = MakesRestart old n image answer new

-- an event was accepted with an answer: it had no refusal, its node did it, and it stands last
-- among the accepted ones
pub record Accepts (old : World) (event : Event) (answer : Answer) (new : World) : Type 0 where
  pub no_refusal : (fault : WorldFault) → RefusesEvent old event fault → ⊥
  pub makes : Makes old (node_of_event event) (doing_in old event) answer new
  pub accepted : new.accepted ≡ old.accepted ++ (record { event = event; answer = answer }) ∷ []

-- an event was refused, for its first cause or because memory ran out, and nothing changed
pub record Declines (old : World) (event : Event) (fault : WorldFault) (new : World) : Type 0 where
  pub cause : (fault ≡ Memory) ⊎ RefusesEvent old event fault
  pub same : new ≡ old

-- what comes of an event: it is accepted with this answer, or refused with this fault (one word,
-- into which proofs do not look by themselves)
unfoldable pub Outcome : World → Event → Result Answer WorldFault → World → Type 0
Outcome old event (Ok answer) new = Accepts old event answer new
Outcome old event (Err fault) new = Declines old event fault new

-- ---- deeds

-- what an event gave, by its answer
abbrev pub given_in : World → Answer → Stepped
given_in w answer = record { reply = answer.reply; outbox = frames_at answer.sent w.frames }

-- the event's node has one deed more, what the event was to it with what it gave; of all other
-- nodes the deeds are as before
pub record AddsDeed (old : World) (event : Event) (answer : Answer) (new : World) : Type 0 where
  pub own : deeds_in new (node_of_event event)
      ≡ deeds_in old (node_of_event event) ++ (doing_in old event, given_in new answer) ∷ []
  pub others : (n : ℕ) → node_of_event event ≢ n → deeds_in new n ≡ deeds_in old n

-- ---- all of one event, and events one after the other

-- one event: its outcome; if it is accepted, it is one more deed of its node; a delivery is
-- answered fresh exactly if it brought something; what a merge leaves shows a value, so that 21 is
-- never the cause of a refusal; and in what is left each node shows what it knows
pub record Passes (old : World) (event : Event) (outcome : Result Answer WorldFault) (new : World)
    : Type 0 where
  pub comes : Outcome old event outcome new
  pub deeds : IfOk outcome (λ answer. AddsDeed old event answer new)
  pub fresh : IfOk outcome (FreshExactly old event)
  pub never : RefusesEvent old event (OfStepFault (OfStep.Store BadEntries)) → ⊥
  pub shows : ShowWhatTheyKnow new

-- one event after the other, each with its outcome
abbrev pub Outcomes : World → List Event → List (Result Answer WorldFault) → World → Type 0
Outcomes old [] [] new = new ≡ old
Outcomes old [] (o ∷ os) new = ⊥
Outcomes old (e ∷ es) [] new = ⊥
Outcomes old (e ∷ es) (o ∷ os) new =
    (between : World) × (Passes old e o between × Outcomes between es os new)

-- a run begins with no event, and goes on by one event with its outcome
pub record WorldRunsGoOn : Type 0 where
  pub begins : (w : World) → Outcomes w [] [] w
  pub goes_on : (old mid new : World) (events : List Event)
      (outcomes : List (Result Answer WorldFault)) (event : Event)
      (outcome : Result Answer WorldFault) → Outcomes old events outcomes mid
      → Passes mid event outcome new
      → Outcomes old (events ++ event ∷ []) (outcomes ++ outcome ∷ []) new

-- what a world was and the event determine its outcome and the world that is left, except that
-- memory may run out at any time
abbrev pub OneOutcomeForEachEvent : Type 0
OneOutcomeForEachEvent = (old new other : World) (event : Event)
    (outcome also : Result Answer WorldFault) → Outcome old event outcome new
    → Outcome old event also other → outcome ≢ Err Memory → also ≢ Err Memory
    → (outcome ≡ also) × (new ≡ other)
