use Rattle.std.proofs.Common.{rules, refl, subst}
use Rattle.node_overlay.specs.declared.pending.Pending.TheVariants.{Views}
use Rattle.node_overlay.specs.Overlay.{IsOverlay, overlay_after_view}
use Rattle.node_overlay.proofs.Naming.{names_others_on}
use Rattle.node_overlay.proofs.Asked.{foreseen}
use Rattle.node_overlay.proofs.overlay.Overlay.on_view_event.Goals as goal

pub returns-clause-pending : goal.returns-clause-pending
returns-clause-pending c =
    let o = c.args.self.now in
    let event = c.args.event.now in
    let was = subst IsOverlay c.self.view_is c.self.invariant in
    foreseen (Views c.in_ok-views.views c.in_ok-peers.peers c.in_ok-views.changes) o (overlay_after_view event c.args.word o) (search rules) refl was
    (names_others_on.views o event c.args.word c.requires was)
