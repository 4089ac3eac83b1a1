use Rattle.std.proofs.Common.{[], sym, subst}
use Rattle.node_readers.specs.Spread.{IsSpreadOf}
use Rattle.node_readers.proofs.Spreading.{spread_nothing}
use Rattle.node_readers.proofs.spread.SpreadTable.empty.Goals as goal

pub returns : goal.returns
returns c = subst (IsSpreadOf []) (sym c.loop-bucket.invariant) (spread_nothing c.loop-bucket._bucket)
