use Rattle.std.proofs.Common.{◌≡◌, arith}
use Rattle.scenario_text.specs.declared.verb.Verb.TheVariants as verbs
use Rattle.scenario_text.specs.Coded.{verb_word}
use Rattle.scenario_text.proofs.verb.verb_of.Goals as goal

-- each verb has its place
pub returns : goal.returns
returns c = λ verb. elim verb as (λ v. c.args.word.now ≡ verb_word v → ⊥) [
  | verbs.Nodes ↦ c.loop-verb.invariant 0 verbs.Nodes (omega arith)
  | verbs.Put ↦ c.loop-verb.invariant 1 verbs.Put (omega arith)
  | verbs.Del ↦ c.loop-verb.invariant 2 verbs.Del (omega arith)
  | verbs.Over ↦ c.loop-verb.invariant 3 verbs.Over (omega arith)
  | verbs.Read ↦ c.loop-verb.invariant 4 verbs.Read (omega arith)
  | verbs.Show ↦ c.loop-verb.invariant 5 verbs.Show (omega arith)
  | verbs.Resolve ↦ c.loop-verb.invariant 6 verbs.Resolve (omega arith)
  | verbs.Deliver ↦ c.loop-verb.invariant 7 verbs.Deliver (omega arith)
  | verbs.Junk ↦ c.loop-verb.invariant 8 verbs.Junk (omega arith)
  | verbs.Tick ↦ c.loop-verb.invariant 9 verbs.Tick (omega arith)
  | verbs.Join ↦ c.loop-verb.invariant 10 verbs.Join (omega arith)
  | verbs.Down ↦ c.loop-verb.invariant 11 verbs.Down (omega arith)
  | verbs.Exchange ↦ c.loop-verb.invariant 12 verbs.Exchange (omega arith)
  | verbs.Hello ↦ c.loop-verb.invariant 13 verbs.Hello (omega arith)
  | verbs.Leave ↦ c.loop-verb.invariant 14 verbs.Leave (omega arith)
  | verbs.Restart ↦ c.loop-verb.invariant 15 verbs.Restart (omega arith)
  | verbs.Keep ↦ c.loop-verb.invariant 16 verbs.Keep (omega arith)
  | verbs.Watch ↦ c.loop-verb.invariant 17 verbs.Watch (omega arith)
  | verbs.Changes ↦ c.loop-verb.invariant 18 verbs.Changes (omega arith)
  | verbs.List ↦ c.loop-verb.invariant 19 verbs.List (omega arith)
  | verbs.Root ↦ c.loop-verb.invariant 20 verbs.Root (omega arith)
  | verbs.Images ↦ c.loop-verb.invariant 21 verbs.Images (omega arith)
  | verbs.Views ↦ c.loop-verb.invariant 22 verbs.Views (omega arith)
  | verbs.Settle ↦ c.loop-verb.invariant 23 verbs.Settle (omega arith)
]
