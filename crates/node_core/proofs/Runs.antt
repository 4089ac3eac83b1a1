-- Runs: their events determine them, they join and split, and they count their steps and frames.
use Rattle.std.proofs.Common.{◌≡◌, ℕ, ◌+◌, ◌-◌, ◌<◌, ◌^◌, min, List, [], ◌∷◌, ◌++◌, length, get_or, drop, Option, refl, suc, sym, ap, subst, ◌∙◌, arith}
use Rattle.node_events.specs.declared.event.NodeEvent.{NodeEvent}
use Rattle.node_events.specs.declared.reply.Reply.{Reply}
use Rattle.node_events.specs.declared.fault.StepFault.{StepFault}
use Rattle.node_overlay.specs.Outbox.{count_on}
use Rattle.node_core.specs.declared.state.Stepped.{Stepped}
use Rattle.node_core.specs.Node.{NodeParts}
use Rattle.node_core.specs.Draft.{NodeDraft}
use Rattle.node_core.specs.Rows.{row_of_input}
use Rattle.node_core.specs.Step.{IsNodeStep, IsStepTo, begun}
use Rattle.node_core.specs.Run.{CountsOn, EachStepCounts, EventsDetermineARun, IsRun, RunsJoinAndSplit, events_of, frames_sent}
use Rattle.node_core.proofs.Leaves.{LeavesBy, of_input}
use Rattle.node_core.proofs.Making.{frames_counted}
use Rattle.node_core.proofs.Outcomes.{one_outcome}

-- ---- the same events

pub events_decide : EventsDetermineARun
events_decide [] [] old new other run also same = (refl, run ∙ sym also)
events_decide [] (f ∷ fs) old new other run also same = let no : [] ≡ f.0 ∷ events_of fs = same in absurd (cc)
events_decide (e ∷ es) [] old new other run also same = let no : e.0 ∷ events_of es ≡ [] = same in absurd (cc)
events_decide (e ∷ es) (f ∷ fs) old new other run also same =
    let event : e.0 ≡ f.0 = ap (λ (events : List NodeEvent). get_or events 0 e.0) same in
    let rest : events_of es ≡ events_of fs = ap (λ (events : List NodeEvent). drop 1 events) same in
    let theirs : IsNodeStep old e.0 also.0 f.1 = subst (λ x. IsNodeStep old x also.0 f.1) (sym event) also.1.0 in
    let one = one_outcome.steps old e.0 run.0 also.0 e.1 f.1 run.1.0 theirs in
    let later : IsRun run.0 fs other = subst (λ from. IsRun from fs other) (sym one.0) also.1.1 in
    let end = events_decide es fs run.0 new other run.1.1 later rest in
    ((λ i. (event i, one.1 i) ∷ end.0 i), end.1)

-- ---- joined and split

join_runs : (first later : List (NodeEvent × Stepped)) (old mid new : NodeParts)
    → IsRun old first mid → IsRun mid later new → IsRun old (first ++ later) new
join_runs [] later old mid new run also = subst (λ from. IsRun from later new) run also
join_runs (e ∷ es) later old mid new run also = (run.0, (run.1.0, join_runs es later run.0 mid new run.1.1 also))

split_run : (first later : List (NodeEvent × Stepped)) (old new : NodeParts)
    → IsRun old (first ++ later) new → (mid : NodeParts) × (IsRun old first mid × IsRun mid later new)
split_run [] later old new run = (old, (refl, run))
split_run (e ∷ es) later old new run =
    let parts = split_run es later run.0 new run.1.1 in
    (parts.0, ((run.0, (run.1.0, parts.1.0)), parts.1.1))

pub runs_join : RunsJoinAndSplit
runs_join = record {
  joins = λ first later old mid new run also. join_runs first later old mid new run also;
  splits = λ first later old new run. split_run first later old new run;
}

-- ---- counted

count_twice : (most a m n : ℕ) → min (min (a + m) most + n) most ≡ min (a + (m + n)) most
count_twice most a m n = omega arith

counts_add : (a m n : ℕ) → count_on (count_on a m) n ≡ count_on a (m + n)
counts_add a m n = count_twice (2 ^ 64 - 1) a m n

one_more : (n : ℕ) → 1 + n ≡ suc n
one_more n = omega arith

count_none : (a : ℕ) → a < 2 ^ 64 → a ≡ count_on a 0
count_none a low = omega (arith, low)

count_low : (a n : ℕ) → count_on a n < 2 ^ 64
count_low a n = omega arith

step_counts : (old new : NodeParts) (event : NodeEvent) (refusal : Option StepFault) (done : NodeDraft) (reply : Reply) (s : Stepped)
    → LeavesBy old event done → IsStepTo old refusal done reply new s → CountsOn 1 (length s.outbox) old new
step_counts old new event refusal done reply s leaves step =
    let sent : length s.outbox ≡ length done.sent = ap length step.sends ∙ frames_counted old.node old.frames done.sent in
    record {
      node = ap (λ (p : NodeParts). p.node) step.node ∙ leaves.node;
      life = ap (λ (p : NodeParts). p.incarnation) step.node ∙ leaves.life;
      steps = ap (λ (p : NodeParts). p.steps) step.node ∙ ap (λ n. count_on n 1) leaves.steps;
      frames =
          ap (λ (p : NodeParts). p.frames) step.node ∙ ap (λ n. count_on n (length done.sent)) leaves.frames
          ∙ ap (λ n. count_on old.frames n) (sym sent);
    }

each_step : (old : NodeParts) (event : NodeEvent) (new : NodeParts) (s : Stepped)
    → IsNodeStep old event new s → CountsOn 1 (length s.outbox) old new
each_step old event new s is =
    step_counts old new event _ (row_of_input is.input (begun old)) _ s (of_input old event is.input is.is_input) is.step

each_run : (steps : List (NodeEvent × Stepped)) (old new : NodeParts) → old.steps < 2 ^ 64 → old.frames < 2 ^ 64
    → IsRun old steps new → CountsOn (length steps) (frames_sent steps) old new
each_run [] old new few short run = record {
  node = ap (λ (p : NodeParts). p.node) run;
  life = ap (λ (p : NodeParts). p.incarnation) run;
  steps = ap (λ (p : NodeParts). p.steps) run ∙ count_none old.steps few;
  frames = ap (λ (p : NodeParts). p.frames) run ∙ count_none old.frames short;
}
each_run (e ∷ es) old new few short run =
    let first = each_step old e.0 run.0 e.1 run.1.0 in
    let sent = length e.1.outbox in
    let rest =
    each_run es run.0 new (subst (λ n. n < 2 ^ 64) (sym first.steps) (count_low old.steps 1))
    (subst (λ n. n < 2 ^ 64) (sym first.frames) (count_low old.frames sent)) run.1.1 in
    record {
      node = rest.node ∙ first.node;
      life = rest.life ∙ first.life;
      steps = rest.steps ∙ ap (λ n. count_on n (length es)) first.steps ∙ counts_add old.steps 1 (length es) ∙ ap (λ n. count_on old.steps n) (one_more (length es));
      frames = rest.frames ∙ ap (λ n. count_on n (frames_sent es)) first.frames ∙ counts_add old.frames sent (frames_sent es);
    }

pub each_counts : EachStepCounts
each_counts = record {
  step = λ old event new s is. each_step old event new s is;
  run = λ steps old new few short run. each_run steps old new few short run;
}
