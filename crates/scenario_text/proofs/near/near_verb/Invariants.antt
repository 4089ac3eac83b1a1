use Rattle.std.proofs.Common.{◌≡◌, drop}
use Rattle.scenario_text.specs.Hint.{all_verbs, near_of}
use Rattle.scenario_text.proofs.near.near_verb.Given as goal

abbrev pub invariant-loop-verb : goal.invariant-loop-verb
invariant-loop-verb l = near_of l.word all_verbs ≡ near_of l.word (drop l.verb-index l.verb-items)
