use Rattle.node_overlay.proofs.Naming.{told_on}
use Rattle.node_overlay.proofs.overlay.Overlay.on_change.Goals as goal

pub invariant_of-self : goal.invariant_of-self
invariant_of-self c =
    told_on c.self.view_is c.self.invariant c.on_change.ensures tt tt
