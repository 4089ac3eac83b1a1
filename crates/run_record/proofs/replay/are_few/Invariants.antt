use Rattle.std.proofs.Common.{◌<◌, take, All}
use Rattle.node_journal.specs.Closed.{number_of}
use Rattle.run_record.proofs.replay.are_few.Given as goal

abbrev pub invariant-loop-one : goal.invariant-loop-one
invariant-loop-one l = All (λ c. number_of c < 16) (take l.one-index l.closed)
