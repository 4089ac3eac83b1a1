use Rattle.std.proofs.Common.{subst}
use Rattle.world_core.specs.Invariant.{IsWholeWorld}
use Rattle.world_core.proofs.Running.{passes}
use Rattle.world_core.proofs.world.World.apply.Goals as goal

pub returns : goal.returns
returns c =
    passes c.args.self.now c.args.event c.act-outcome.result c.act-outcome.new.self (subst IsWholeWorld c.self.view_is c.self.invariant) c.act-outcome.ensures
    (subst IsWholeWorld c.self-2.view_is c.self-2.invariant)
