use Rattle.std.proofs.Common.{Err, refl, subst}
use Rattle.world_core.specs.Invariant.{IsWholeWorld}
use Rattle.world_core.specs.declared.fault.WorldFault.TheVariants.{Memory}
use Rattle.world_core.proofs.Outcomes.{memory}
use Rattle.world_core.proofs.Running.{passes}
use Rattle.world_core.proofs.world.World.apply_copy.Goals as goal

pub returns-in-Err : goal.returns-in-Err
returns-in-Err c =
    let is : IsWholeWorld c.args.self.now = subst IsWholeWorld c.self.view_is c.self.invariant in
    passes c.args.self.now c.args.event.now (Err Memory) c.args.self.now is (memory c.args.event.now refl refl) is
