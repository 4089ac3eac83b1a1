use Rattle.node_overlay.proofs.Naming.{told_on}
use Rattle.node_overlay.proofs.Asked.{called}
use Rattle.node_overlay.proofs.overlay.Overlay.on_prune.Goals as goal

pub invariant_of-self-2 : goal.invariant_of-self-2
invariant_of-self-2 c =
    told_on c.self.view_is c.self.invariant c.in_ok-on_prune.ensures.row tt tt

pub returns-clause-pending : goal.returns-clause-pending
returns-clause-pending c =
    called c.in_ok-savepoint.savepoint c.self.view_is c.self.invariant c.in_ok-on_prune.ensures.row c.in_ok-savepoint.ensures tt tt tt
