-- What passing an event makes of a world: its frames grow, and its nodes stay as many.
use Rattle.std.proofs.Common.{◌≡◌, ◌≢◌, ℕ, zero, suc, ◌+◌, ◌<◌, ◌≤◌, true, false, not, List, [], ◌++◌, length, Some, None, Result, Ok, Err, inl, inr, sym, ap, subst, ◌∙◌, arith}
use Rattle.std.proofs.lemmas.List.{append-nil, length-append, length-set}
use Rattle.std.proofs.lemmas.Option.{slice_get_within}
use Rattle.meta_types.specs.Name.{Key}
use Rattle.node_core.specs.Node.{NodeParts}
use Rattle.node_core.specs.Rows.{Input, IsInput, Local, Received}
use Rattle.node_core.specs.Step.{refusal_of}
use Rattle.node_events.specs.declared.fault.StepFault.{StepFault}
use Rattle.node_events.specs.declared.event.NodeEvent.TheVariants as OfNode
use Rattle.world_core.specs.declared.answer.Answer.{Answer}
use Rattle.world_core.specs.declared.event.Event.{Event}
use Rattle.world_core.specs.declared.event.Event.TheVariants as events
use Rattle.world_core.specs.declared.fault.WorldFault.{WorldFault}
use Rattle.world_core.specs.declared.fault.WorldFault.TheVariants.{Memory}
use Rattle.world_core.specs.Events.{Begin, Doing, Step, node_of_event}
use Rattle.world_core.specs.Outcome.{Makes, Outcome, next_frames}
use Rattle.world_core.specs.Refusal.{RefusesEvent, doing_in, node_at}
use Rattle.world_core.specs.Numbers.{numbered}
use Rattle.world_core.specs.World.{World}
use Rattle.world_core.proofs.Refusing.{has_frame, some_by}
use Rattle.scenario_commands.specs.Coded.{AreThere, CanBeMarked, HasSent}
use Rattle.scenario_commands.specs.Obeying.{counts_as_given, changes_no_mark}

-- ---- what an accepted event adds

pub record Grows (old new : World) (answer : Answer) : Type 0 where
  pub more : List (List ℕ)
  pub frames : new.frames ≡ old.frames ++ more
  pub sent : answer.sent ≡ next_frames old (length more)
  pub nodes : length new.nodes ≡ length old.nodes

grows : (old new : World) (n : ℕ) (doing : Doing) (answer : Answer) → Makes old n doing answer new → Grows old new answer
grows old new n (Step step) answer makes = record {
  more = makes.given.outbox;
  frames = makes.frames;
  sent = ap (λ (a : Answer). a.sent) makes.answers;
  nodes = ap length makes.nodes ∙ length-set old.nodes n _;
}
grows old new n (Begin image) answer makes = record {
  more = [];
  frames = makes.frames ∙ sym (append-nil old.frames);
  sent = ap (λ (a : Answer). a.sent) makes.answers;
  nodes = ap length makes.nodes ∙ length-set old.nodes n makes.node;
}

grown : (old new : World) (event : Event) (answer : Answer) → Outcome old event (Ok answer) new → Grows old new answer
unfolding Outcome
grown old new event answer accepts = grows old new (node_of_event event) (doing_in old event) answer accepts.makes

kept : (old new : World) (event : Event) (fault : WorldFault) → Outcome old event (Err fault) new → new ≡ old
unfolding Outcome
kept old new event fault rejects = rejects.same

pub more_frames : (old new : World) (event : Event) (outcome : Result Answer WorldFault) → Outcome old event outcome new → length old.frames ≤ length new.frames
more_frames old new event (Ok answer) comes =
    let g = grown old new event answer comes in
    let long : length new.frames ≡ length old.frames + length g.more = ap length g.frames ∙ length-append old.frames g.more in
    omega (arith, long)
more_frames old new event (Err fault) comes =
    let same : length new.frames ≡ length old.frames = ap (λ (w : World). length w.frames) (kept old new event fault comes) in
    omega (arith, same)

pub same_nodes : (old new : World) (event : Event) (outcome : Result Answer WorldFault) → Outcome old event outcome new → length new.nodes ≡ length old.nodes
same_nodes old new event (Ok answer) comes = (grown old new event answer comes).nodes
same_nodes old new event (Err fault) comes = ap (λ (w : World). length w.nodes) (kept old new event fault comes)

pub has_sent : (old new : World) (event : Event) (outcome : Result Answer WorldFault) → Outcome old event outcome new → HasSent new outcome
has_sent old new event (Ok answer) comes =
    let g = grown old new event answer comes in
    let long : length new.frames ≡ length old.frames + length g.more = ap length g.frames ∙ length-append old.frames g.more in
    subst (AreThere new) (sym g.sent) (omega arith, omega (arith, long))
has_sent old new event (Err fault) comes = tt

-- ---- a delivery

within_numbered : {A : Type 0} (xs : List A) (number : ℕ) (x : A) → numbered xs number ≡ Some x → (1 ≤ number) × (number ≤ length xs)
within_numbered xs zero x e = let no : None ≡ Some x = e in absurd (cc)
within_numbered xs (suc before) x e = let low : before < length xs = slice_get_within xs before x e in (omega arith, omega (arith, low))

-- if a delivery is refused and the frame still counts as given, the frame is there
refused_there : (w : World) (frame n word : ℕ) (fault : WorldFault) → RefusesEvent w (events.Deliver frame n word) fault → not (changes_no_mark fault) ≡ true → (bytes : List ℕ) × (numbered w.frames frame ≡ Some bytes)
refused_there w frame n word fault (inl no_node) given = let e = ap (λ f. not (changes_no_mark f)) no_node.1 in let no : false ≡ true = sym e ∙ given in absurd (cc)
refused_there w frame n word fault (inr (there, inl no_frame)) given = let e = ap (λ f. not (changes_no_mark f)) no_frame.1 in let no : false ≡ true = sym e ∙ given in absurd (cc)
refused_there w frame n word fault (inr (there, inr (sent, others))) given = some_by (numbered w.frames frame) sent

marked_there : (old new : World) (frame n word : ℕ) (outcome : Result Answer WorldFault) → Outcome old (events.Deliver frame n word) outcome new → outcome ≢ Err Memory → counts_as_given outcome ≡ true
    → (bytes : List ℕ) × (numbered old.frames frame ≡ Some bytes)
unfolding Outcome
marked_there old new frame n word (Ok answer) accepts had given = has_frame old frame n word accepts.no_refusal
marked_there old new frame n word (Err fault) rejects had given = elim rejects.cause [
  | inl memory ↦ absurd (had (ap (λ (f : WorldFault). Err f) memory))
  | inr refuses ↦ refused_there old frame n word fault refuses given
]

-- a frame that was given was there before, so that it has a mark
pub frame_there : (old new : World) (frame n word : ℕ) (outcome : Result Answer WorldFault) → Outcome old (events.Deliver frame n word) outcome new → outcome ≢ Err Memory → counts_as_given outcome ≡ true
    → (1 ≤ frame) × (frame ≤ length old.frames)
frame_there old new frame n word outcome comes had given =
    let found = marked_there old new frame n word outcome comes had given in
    within_numbered old.frames frame found.0 found.1

pub can_be_marked : (old new : World) (frame n word : ℕ) (outcome : Result Answer WorldFault) → Outcome old (events.Deliver frame n word) outcome new → CanBeMarked new frame outcome
can_be_marked old new frame n word outcome comes had given =
    let there = frame_there old new frame n word outcome comes had given in
    let more = more_frames old new (events.Deliver frame n word) outcome comes in
    (there.0, omega (arith, there.1, more))

-- ---- keeping

no_refusal : (s : NodeParts) (k : Key) (input : Input) (fault : StepFault) → IsInput (OfNode.Keep k) input → refusal_of input s ≡ Some fault → ⊥
no_refusal s k (Local event) fault is first = let no : None ≡ Some fault = sym (ap (λ e. refusal_of (Local e) s) is) ∙ first in absurd (cc)
no_refusal s k (Received frame word) fault is first = absurd is

never_refused : (w : World) (n : ℕ) (k : Key) (fault : WorldFault) → RefusesEvent w (events.Step n (OfNode.Keep k)) fault → n < length w.nodes → ⊥
never_refused w n k fault (inl (inl none, is)) there = absurd (omega (arith, none, there))
never_refused w n k fault (inl (inr other, is)) there = absurd other
never_refused w n k fault (inr (node, inl frame)) there = absurd frame.0
never_refused w n k fault (inr (node, inr (frame, inl read))) there = absurd read.0
never_refused w n k fault (inr (node, inr (frame, inr (read, inl image)))) there = absurd image.0
never_refused w n k fault (inr (node, inr (frame, inr (read, inr (image, inl life))))) there = absurd life.0
never_refused w n k fault (inr (node, inr (frame, inr (read, inr (image, inr (life, inl junk)))))) there = absurd junk.0
never_refused w n k fault (inr (node, inr (frame, inr (read, inr (image, inr (life, inr (junk, by))))))) there = elim by.cause [
  | inl no_frame ↦ absurd no_frame
  | inr refused ↦ no_refusal (node_at w n).state k refused.input by.by_step refused.is_input refused.first
]

pub keep_is_accepted : (old new : World) (n : ℕ) (k : Key) (fault : WorldFault) → Outcome old (events.Step n (OfNode.Keep k)) (Err fault) new → n < length old.nodes → fault ≡ Memory
unfolding Outcome
keep_is_accepted old new n k fault rejects there = elim rejects.cause [
  | inl memory ↦ memory
  | inr refuses ↦ absurd (never_refused old n k fault refuses there)
]
