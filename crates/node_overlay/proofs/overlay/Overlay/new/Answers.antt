use Rattle.std.proofs.Common.{subst, sym, ap, ◌∙◌}
use Rattle.hyparview.specs.Views as views
use Rattle.node_overlay.specs.Overlay.{IsOverlay, overlay_of}
use Rattle.node_overlay.proofs.Naming.{names_others_on}
use Rattle.node_overlay.proofs.overlay.Overlay.new.Goals as goal

pub invariant_of-result : goal.invariant_of-result
invariant_of-result c =
    let is = ap (λ v. overlay_of v c.new-2.result) c.new.ensures ∙ ap (overlay_of (views.empty c.args.node)) c.new-2.ensures in
    subst IsOverlay (sym is) (names_others_on.begins c.args.node)
