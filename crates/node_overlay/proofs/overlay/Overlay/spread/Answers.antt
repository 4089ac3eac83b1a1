use Rattle.std.proofs.Common.{ap, subst, ◌∙◌}
use Rattle.plumtree.specs.Savepoint.{savepoint_of}
use Rattle.node_overlay.specs.Origin.{call_of}
use Rattle.node_overlay.specs.Overlay.{IsOverlay, Overlay}
use Rattle.node_overlay.proofs.Asked.{called_from, is_of_objects}
use Rattle.node_overlay.proofs.overlay.Overlay.spread.Goals as goal

pub returns-clause-pending : goal.returns-clause-pending
returns-clause-pending c =
    let origin = c.args.origin in
    let call = call_of origin c.args.key.now c.args.vector.now in
    let of = is_of_objects origin c.args.key.now c.args.vector.now in
    called_from c.in_ok-savepoint.savepoint call c.args.self.now c.call.new.self c.in_ok-outs.ensures.overlay
    (c.in_ok-savepoint.ensures ∙ ap (λ (o : Overlay). savepoint_of o.cast) c.self.view_is)
    (subst IsOverlay c.self.view_is c.self.invariant) of.0 of.1 c.requires
