-- A run with what it published goes on, and what follows for a journal.
use Rattle.std.proofs.Common.{◌≡◌, ◌+◌, List, [], ◌∷◌, ◌++◌, length, map, refl, sym, ap, ◌∙◌, subst, arith, append_assoc}
use Rattle.std.proofs.lemmas.List.{append-nil}
use Rattle.node_events.specs.declared.event.NodeEvent.{NodeEvent}
use Rattle.node_core.specs.declared.state.Stepped.{Stepped}
use Rattle.node_core.specs.Node.{NodeParts}
use Rattle.node_core.specs.Run.{IsRun}
use Rattle.node_core.specs.Step.{IsNodeStep}
use Rattle.node_core.proofs.Outcomes.{one_outcome}
use Rattle.node_journal.specs.declared.entry.Entry.{Entry}
use Rattle.node_journal.specs.Entry.{step_of}
use Rattle.node_readers.specs.Published.{Published}
use Rattle.node_call.specs.Journaled.{IsEntryStep, IsJournaled, IsRunWith}

pub run_on : (es : List Entry) (cs : List Published) (old mid new : NodeParts) (e : Entry)
    (changes : List Published) → IsRunWith old es cs mid → IsEntryStep mid e changes new
    → IsRunWith old (es ++ e ∷ []) (cs ++ changes) new
run_on [] cs old mid new e changes run step = (
  new,
  changes,
  [],
  subst (λ from. IsEntryStep from e changes new) run.1 step,
  ap (λ c. c ++ changes) run.0 ∙ sym (append-nil changes),
  (refl, refl),
)
run_on (f ∷ es) cs old mid new e changes run step = (
  run.0,
  run.1,
  run.2 ++ changes,
  run.3,
  ap (λ c. c ++ changes) run.4 ∙ append_assoc run.1 run.2 changes,
  run_on es run.2 run.0 mid new e changes run.5 step,
)

pub journaled_on : (base mid new : NodeParts) (journal : List Entry) (list : List Published)
    (e : Entry) (changes : List Published) → IsJournaled base mid journal list
    → IsEntryStep mid e changes new → IsJournaled base new (journal ++ e ∷ []) (list ++ changes)
journaled_on base mid new journal list e changes k step = record {
  before = k.before;
  published = k.published ++ changes;
  list_is = ap (λ l. l ++ changes) k.list_is ∙ append_assoc k.before k.published changes;
  run = run_on journal k.published base mid new e changes k.run step;
  whole = k.whole;
}

-- without what it published, it is a run
pub run_of : (es : List Entry) (cs : List Published) (old new : NodeParts) → IsRunWith old es cs new
    → IsRun old (map step_of es) new
run_of [] cs old new run = run.1
run_of (e ∷ es) cs old new run = (run.0, (run.3.step, run_of es run.2 run.0 new run.5))

no_changes : (es : List Entry) (cs : List Published) (old new : NodeParts) → length es ≡ 0
    → IsRunWith old es cs new → cs ≡ []
no_changes [] cs old new none run = run.0
no_changes (e ∷ es) cs old new none run = absurd (omega (arith, none))

-- if the journal goes into the base, all of the list stands before it
pub journaled_cut : (base state : NodeParts) (journal : List Entry) (list : List Published)
    → base.steps + length journal ≡ state.steps → IsJournaled base state journal list
    → IsJournaled state state [] list
journaled_cut base state journal list steps k = record {
  before = list;
  published = [];
  list_is = sym (append-nil list);
  run = (refl, refl);
  whole = λ zero.
      let none : length journal ≡ 0 = omega (arith, steps, zero) in
      let first : base.steps ≡ 0 = omega (arith, steps, zero) in
      k.list_is ∙ (ap (λ b. b ++ k.published) (k.whole first) ∙ no_changes journal k.published base state none k.run);
}

-- a node that makes the step of an event becomes what the event made of it before
pub follows : (old new state : NodeParts) (event : NodeEvent) (s t : Stepped)
    → IsNodeStep old event new s → IsNodeStep old event state t → new ≡ state
follows old new state event s t one other = (one_outcome.steps old event new state s t one other).0
