use Rattle.std.proofs.Common.{◌≡◌, rules, subst}
use Rattle.std.proofs.lemmas.List.Elements.{All-same}
use Rattle.hyparview.specs.declared.event.ViewEvent.TheVariants.{ShuffleDue}
use Rattle.node_overlay.specs.Outbox.{MaySend}
use Rattle.node_overlay.specs.Overlay.{IsOverlay, sent_by_view}
use Rattle.node_overlay.proofs.Naming.{view_may}
use Rattle.node_overlay.proofs.overlay.Overlay.after_shuffle.Goals as goal
use Rattle.node_overlay.proofs.overlay.Overlay.after_shuffle.Goals.{After-drop-branch}

is_sent : (c : After-drop-branch)
    → c.in_ok-views-2.sent.items ≡ sent_by_view ShuffleDue c.args.word c.args.self.now
is_sent c = search rules

pub returns-clause-sent : goal.returns-clause-sent
returns-clause-sent c = is_sent c

pub returns-clause-may : goal.returns-clause-may
returns-clause-may c =
    let o = c.args.self.now in
    let was = subst IsOverlay c.self.view_is c.self.invariant in
    All-same (MaySend o.views.node) c.in_ok-views-2.sent.items _ (is_sent c) (view_may o ShuffleDue c.args.word tt was)
