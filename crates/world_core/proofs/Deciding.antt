-- Of each event there is one outcome, and one world is left.
use Rattle.std.proofs.Common.{◌≡◌, ◌≢◌, ◌⊎◌, ℕ, ◌+◌, List, ◌++◌, ◌∷◌, [], length, Result, Ok, Err, inl, inr, sym, ap, ◌∙◌}
use Rattle.meta_store.proofs.Tables.{same_table}
use Rattle.node_core.specs.declared.state.Stepped.{Stepped}
use Rattle.node_core.specs.Node.{NodeParts, opening}
use Rattle.node_core.specs.Step.{CanComeOf}
use Rattle.node_core.specs.Run.{IsOneCause}
use Rattle.node_core.proofs.Outcomes.{one_outcome as one_outcome_of_step}
use Rattle.node_events.specs.Event.{stored_key}
use Rattle.node_events.specs.declared.event.NodeEvent.{NodeEvent}
use Rattle.node_events.specs.declared.fault.StepFault.{StepFault}
use Rattle.restart_images.specs.Images.{Image}
use Rattle.restart_images.specs.Node.{BeginsFrom, ImagedNode, IsRestarted, arrived, context_read}
use Rattle.world_core.specs.declared.answer.Answer.{Answer}
use Rattle.world_core.specs.declared.event.Event.{Event}
use Rattle.world_core.specs.declared.fault.WorldFault.{WorldFault}
use Rattle.world_core.specs.declared.fault.WorldFault.TheVariants.{IncarnationSpent, LooksLikeFrame, Memory, NoSuchFrame, NoSuchImage, NoSuchNode, NoSuchRead}
use Rattle.world_core.specs.Events.{Begin, Doing, Step, node_of_event}
use Rattle.world_core.specs.Fault.{of_step}
use Rattle.world_core.specs.Outcome.{Accepts, Makes, MakesRestart, MakesStep, OneOutcomeForEachEvent, Outcome, Declines, next_frames, read_after, with_node}
use Rattle.world_core.specs.Refusal.{HasNoLifeLeft, IsFrameAsJunk, NamesNoFrame, NamesNoImage, NamesNoNode, NamesNoRead, RefusesDoing, RefusesEvent, doing_in, first_cause, node_at}
use Rattle.world_core.specs.World.{World}

-- ---- one refusal

-- such a refusal is one, except for a lack of memory
abbrev IsOne : (WorldFault → Type 0) → Type 0
IsOne refuses = (f g : WorldFault) → f ≢ Memory → g ≢ Memory → refuses f → refuses g → f ≡ g

one_of : (cause : Type 0) (refusal : WorldFault) (rest : WorldFault → Type 0) → IsOne rest → IsOne (first_cause cause refusal rest)
one_of cause refusal rest others f g not_f not_g (inl here) (inl also) = here.1 ∙ sym also.1
one_of cause refusal rest others f g not_f not_g (inl here) (inr later) = absurd (later.0 here.0)
one_of cause refusal rest others f g not_f not_g (inr later) (inl here) = absurd (later.0 here.0)
one_of cause refusal rest others f g not_f not_g (inr later) (inr also) = others f g not_f not_g later.1 also.1

by_one_cause : (one other : StepFault) (f g : WorldFault) → f ≡ of_step one → g ≡ of_step other → f ≢ Memory → g ≢ Memory → IsOneCause one other → f ≡ g
by_one_cause one other f g is also not_f not_g (inl memory) = absurd (not_f (is ∙ ap of_step memory))
by_one_cause one other f g is also not_f not_g (inr (inl memory)) = absurd (not_g (also ∙ ap of_step memory))
by_one_cause one other f g is also not_f not_g (inr (inr same)) = is ∙ ap of_step same ∙ sym also

one_of_doing : (s : NodeParts) (doing : Doing) → IsOne (RefusesDoing s doing)
one_of_doing s (Step step) f g not_f not_g by also =
    let one : CanComeOf s step by.by_step = inr by.cause in
    let other : CanComeOf s step also.by_step = inr also.cause in
    by_one_cause by.by_step also.by_step f g by.is also.is not_f not_g (one_outcome_of_step.causes s step by.by_step also.by_step one other)
one_of_doing s (Begin image) f g not_f not_g by also = absurd by

one_refusal : (w : World) (event : Event) → IsOne (RefusesEvent w event)
one_refusal w event =
    one_of (NamesNoNode w event) NoSuchNode _
    (one_of (NamesNoFrame w event) NoSuchFrame _
    (one_of (NamesNoRead w event) NoSuchRead _
    (one_of (NamesNoImage w event) NoSuchImage _
    (one_of (HasNoLifeLeft w event) IncarnationSpent _
    (one_of (IsFrameAsJunk event) LooksLikeFrame _
    (one_of_doing (node_at w (node_of_event event)).state (doing_in w event)))))))

-- ---- one world left

-- what an event makes of a world, and of its answer: all but what was accepted
pub record IsMade (answer also : Answer) (new other : World) : Type 0 where
  pub answers : answer ≡ also
  pub nodes : new.nodes ≡ other.nodes
  pub frames : new.frames ≡ other.frames
  pub contexts : new.contexts ≡ other.contexts

one_step : (old : World) (n : ℕ) (step : NodeEvent) (answer also : Answer) (new other : World) → MakesStep old n step answer new → MakesStep old n step also other → IsMade answer also new other
one_step old n step answer also new other makes again =
    let same = one_outcome_of_step.steps (node_at old n).state step makes.state again.state makes.given again.given makes.makes again.makes in record {
      answers = makes.answers ∙ ap (λ (s : Stepped). record {
        reply = s.reply;
        read = read_after old.contexts (context_read step (node_at old n).state);
        sent = next_frames old (length s.outbox);
      }) same.1 ∙ sym again.answers;
      nodes = makes.nodes ∙ ap (λ s. with_node old n (arrived s (stored_key step) (node_at old n))) same.0 ∙ sym again.nodes;
      frames = makes.frames ∙ ap (λ (s : Stepped). old.frames ++ s.outbox) same.1 ∙ sym again.frames;
      contexts = makes.contexts ∙ sym again.contexts;
    }

one_begun : (images : List Image) (number : ℕ) (old new other : NodeParts) → BeginsFrom images number old new → BeginsFrom images number old other → new ≡ other
one_begun images number old new other begins also =
    let same : begins.table ≡ also.table = same_table begins.table also.table begins.is_table also.is_table (λ key is. begins.restored key ∙ sym (also.restored key)) in
    begins.begins ∙ ap (opening old.node (old.incarnation + 1)) same ∙ sym also.begins

one_restarted : (old : ImagedNode) (number : ℕ) (new other : ImagedNode) → IsRestarted old number new → IsRestarted old number other → new ≡ other
one_restarted old number new other restarts also = λ i. record {
  state = one_begun old.images number old.state new.state other.state restarts.begins also.begins i;
  images = (restarts.images ∙ sym also.images) i;
  standing = (restarts.standing ∙ sym also.standing) i;
}

one_restart : (old : World) (n image : ℕ) (answer also : Answer) (new other : World) → MakesRestart old n image answer new → MakesRestart old n image also other → IsMade answer also new other
one_restart old n image answer also new other makes again = record {
  answers = makes.answers ∙ sym again.answers;
  nodes = makes.nodes ∙ ap (with_node old n) (one_restarted (node_at old n) image makes.node again.node makes.restarts again.restarts) ∙ sym again.nodes;
  frames = makes.frames ∙ sym again.frames;
  contexts = makes.contexts ∙ sym again.contexts;
}

one_made : (old : World) (n : ℕ) (doing : Doing) (answer also : Answer) (new other : World) → Makes old n doing answer new → Makes old n doing also other → IsMade answer also new other
one_made old n (Step step) answer also new other makes again = one_step old n step answer also new other makes again
one_made old n (Begin image) answer also new other makes again = one_restart old n image answer also new other makes again

-- ---- one outcome

one_accepted : (old new other : World) (event : Event) (answer also : Answer) → Accepts old event answer new → Accepts old event also other → (answer ≡ also) × (new ≡ other)
one_accepted old new other event answer also accepts again =
    let made = one_made old (node_of_event event) (doing_in old event) answer also new other accepts.makes again.makes in (
      made.answers,
      λ i. record {
        nodes = made.nodes i;
        accepted = (accepts.accepted ∙ ap (λ a. old.accepted ++ (record { event = event; answer = a }) ∷ []) made.answers ∙ sym again.accepted) i;
        frames = made.frames i;
        contexts = made.contexts i;
      },
    )

abbrev failed : WorldFault → Result Answer WorldFault
failed fault = Err fault

not_memory : {fault : WorldFault} → failed fault ≢ failed Memory → fault ≢ Memory
not_memory not same = not (ap failed same)

refused : (old : World) (event : Event) (fault : WorldFault) → (fault ≡ Memory) ⊎ RefusesEvent old event fault → fault ≢ Memory → RefusesEvent old event fault
refused old event fault (inl memory) not = absurd (not memory)
refused old event fault (inr refuses) not = refuses

never_both : (old new other : World) (event : Event) (answer : Answer) (fault : WorldFault) → Accepts old event answer new → Declines old event fault other → fault ≢ Memory → ⊥
never_both old new other event answer fault accepts rejects not =
    accepts.no_refusal fault (refused old event fault rejects.cause not)

one_rejected : (old new other : World) (event : Event) (f g : WorldFault) → Declines old event f new → Declines old event g other → f ≢ Memory → g ≢ Memory → (f ≡ g) × (new ≡ other)
one_rejected old new other event f g rejects again not_f not_g = (
  one_refusal old event f g not_f not_g (refused old event f rejects.cause not_f) (refused old event g again.cause not_g),
  rejects.same ∙ sym again.same,
)

pub one_outcome : OneOutcomeForEachEvent
unfolding Outcome
one_outcome old new other event (Ok answer) (Ok also) accepts again not_one not_other =
    let same = one_accepted old new other event answer also accepts again in (ap (λ (a : Answer). Ok a) same.0, same.1)
one_outcome old new other event (Ok answer) (Err fault) accepts rejects not_one not_other = absurd (never_both old new other event answer fault accepts rejects (not_memory not_other))
one_outcome old new other event (Err fault) (Ok answer) rejects accepts not_one not_other = absurd (never_both old other new event answer fault accepts rejects (not_memory not_one))
one_outcome old new other event (Err f) (Err g) rejects again not_one not_other =
    let same = one_rejected old new other event f g rejects again (not_memory not_one) (not_memory not_other) in (ap failed same.0, same.1)
