use Rattle.std.proofs.Common.{◌≡◌, drop}
use Rattle.scenario_text.specs.Hint.{slots_of, wrong_in}
use Rattle.scenario_text.proofs.wrong.wrong_in.Given as goal

abbrev pub invariant-loop-slot : goal.invariant-loop-slot
invariant-loop-slot l = wrong_in (slots_of l.fn.verb) l.fn.words ≡ wrong_in (drop l.slot-index l.slot-items) l.words
