use Rattle.std.proofs.Common.{subst}
use Rattle.world_core.specs.Knowledge.{CarriesLoad}
use Rattle.world_core.specs.Invariant.{IsWholeWorld, IsWorld}
use Rattle.world_core.specs.World.{World}
use Rattle.world_core.specs.contracts.world.World.{the_view}
use Rattle.world_core.proofs.Outcomes.{world_of}
use Rattle.world_core.proofs.Retelling.{copied_spells}
use Rattle.world_core.proofs.Shown.{carries_load, of_told}
use Rattle.world_core.proofs.world.World.frame.Goals as goal

pub returns-clause-spelled : goal.returns-clause-spelled
returns-clause-spelled c =
    let w : World = the_view c.self.inside in
    copied_spells w (world_of w c.self.invariant) c.args.number c.frame.result c.frame.ensures

pub returns-clause-carries : goal.returns-clause-carries
returns-clause-carries c =
    let is : IsWorld c.args.self.now = world_of c.args.self.now (subst IsWholeWorld c.self.view_is c.self.invariant) in
    λ frame key object of carries. of_told c.args.self.now is (λ t. CarriesLoad t c.args.number frame.from key object) (carries_load c.args.self.now is c.args.number frame key object of carries)
