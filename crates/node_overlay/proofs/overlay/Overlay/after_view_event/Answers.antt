use Rattle.std.proofs.Common.{All, sym, ap, subst, ◌∙◌}
use Rattle.std.proofs.lemmas.List.Elements.{All-same}
use Rattle.hyparview.specs.Views.{draft_after}
use Rattle.node_overlay.specs.Outbox.{MaySend}
use Rattle.node_overlay.specs.Overlay.{IsOverlay, Overlay, messages_of, sent_by_view}
use Rattle.node_overlay.proofs.Naming.{view_may}
use Rattle.node_overlay.proofs.overlay.Overlay.after_view_event.Goals as goal

pub told_by-told-requires : goal.told_by-told-requires
told_by-told-requires c =
    let o = c.args.self.now in
    let event = c.args.event.now in
    let was = subst IsOverlay c.self.view_is c.self.invariant in
    let own = c.node.ensures ∙ ap (λ (o : Overlay). o.views.node) c.self.view_is in
    let is = ap messages_of (c.in_ok-views.ensures.gives ∙ ap (λ (o : Overlay). (draft_after event c.args.word o.views).out) c.self.view_is) in
    All-same (MaySend c.node.result) (messages_of c.in_ok-views.outs.items) (sent_by_view event c.args.word o) is
    (subst (λ n. All (MaySend n) (sent_by_view event c.args.word o)) (sym own) (view_may o event c.args.word c.requires was))
