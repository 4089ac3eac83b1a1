use Rattle.std.proofs.Common.{rules}
use Rattle.run_record.proofs.Stalling.{zeros_more}
use Rattle.run_record.proofs.walk.first_places.Goals as goal

pub loop-node-preserved : goal.loop-node-preserved
loop-node-preserved c = search (rules, zeros_more)
