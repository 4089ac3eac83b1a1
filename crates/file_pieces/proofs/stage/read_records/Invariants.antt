use Rattle.std.proofs.Common.{length}
use Rattle.file_pieces.proofs.Parts.{IsReadUpTo}
use Rattle.file_pieces.proofs.stage.read_records.Given as goal

abbrev pub invariant-loop-progress : goal.invariant-loop-progress
invariant-loop-progress l = IsReadUpTo l.fn.begun l.progress l.bytes l.rest

abbrev pub decreases-loop-progress : goal.decreases-loop-progress
decreases-loop-progress l = length l.rest
