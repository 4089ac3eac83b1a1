use Rattle.std.proofs.Common.{subst}
use Rattle.past_model.specs.History.{IsHistory}
use Rattle.world_core.specs.Knowledge.{CountsSeen}
use Rattle.world_core.specs.Invariant.{IsWholeWorld, IsWorld}
use Rattle.world_core.proofs.Outcomes.{world_of}
use Rattle.world_core.proofs.Retelling.{replays}
use Rattle.world_core.proofs.Shown.{counts_seen, of_told}
use Rattle.world_core.proofs.world.World.history.Goals as goal

pub returns-clause-replays : goal.returns-clause-replays
returns-clause-replays c =
    replays (λ happenings. happenings.items) c.args.self.now (world_of c.args.self.now (subst IsWholeWorld c.self.view_is c.self.invariant)) c.told.result c.told.ensures

pub returns-clause-tells : goal.returns-clause-tells
returns-clause-tells c =
    let is : IsWorld c.args.self.now = world_of c.args.self.now (subst IsWholeWorld c.self.view_is c.self.invariant) in
    (is.told, is.telling)

pub returns-clause-is_history : goal.returns-clause-is_history
returns-clause-is_history c =
    let is : IsWorld c.args.self.now = world_of c.args.self.now (subst IsWholeWorld c.self.view_is c.self.invariant) in
    of_told c.args.self.now is (λ t. IsHistory t.history) is.state.is_history

pub returns-clause-reads : goal.returns-clause-reads
returns-clause-reads c =
    let is : IsWorld c.args.self.now = world_of c.args.self.now (subst IsWholeWorld c.self.view_is c.self.invariant) in
    λ read context there. of_told c.args.self.now is (λ t. CountsSeen t read context) (counts_seen c.args.self.now is read context there)
