use Rattle.std.proofs.Common.{subst}
use Rattle.restart_images.specs.Node.{new_node}
use Rattle.world_core.specs.Invariant.{IsWholeWorld, IsWorld}
use Rattle.world_core.proofs.Outcomes.{world_of}
use Rattle.world_core.proofs.Shown.{shows_all}
use Rattle.world_core.proofs.laws.a_world_tells_a_history.Goals as goal

pub returns-clause-history : goal.returns-clause-history
returns-clause-history c =
    let is : IsWorld c.args.world.now = world_of c.args.world.now (subst IsWholeWorld c.world.view_is c.world.invariant) in
    (is.told, (is.telling, is.state.is_history))

pub returns-clause-lived : goal.returns-clause-lived
returns-clause-lived c =
    let is : IsWorld c.args.world.now = world_of c.args.world.now (subst IsWholeWorld c.world.view_is c.world.invariant) in
    λ n low. is.lived n (new_node n) low

pub returns-clause-shows : goal.returns-clause-shows
returns-clause-shows c = shows_all c.args.world.now (world_of c.args.world.now (subst IsWholeWorld c.world.view_is c.world.invariant))
