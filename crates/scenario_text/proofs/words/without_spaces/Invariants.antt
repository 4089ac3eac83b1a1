use Rattle.std.proofs.Common.{◌≡◌, length}
use Rattle.scenario_text.specs.Word.{words_of}
use Rattle.scenario_text.proofs.words.without_spaces.Given as goal

abbrev pub invariant-loop-rest : goal.invariant-loop-rest
invariant-loop-rest l = words_of l.rest ≡ words_of l.bytes

abbrev pub decreases-loop-rest : goal.decreases-loop-rest
decreases-loop-rest l = length l.rest
