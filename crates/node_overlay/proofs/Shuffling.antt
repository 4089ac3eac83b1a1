-- In a shuffle nobody comes or goes, so the broadcast stays as a tick left it.
use Rattle.std.proofs.Common.{◌≡◌, ℕ, [], map, refl, sym, ap}
use Rattle.std.proofs.lemmas.Bool.{cond_both}
use Rattle.hyparview.specs.declared.event.ViewEvent.TheVariants.{ShuffleDue}
use Rattle.hyparview.specs.Draft.{Draft}
use Rattle.hyparview.specs.Rows.{is_empty, on_shuffle_due}
use Rattle.hyparview.specs.Views.{NodeViews, draft_after, draft_of, views_of}
use Rattle.plumtree.specs.Broadcast.{Tick, peer_call}
use Rattle.plumtree.specs.Lawful.{after_call, broadcast_after}
use Rattle.node_overlay.specs.Overlay.{Overlay, overlay_after_call, overlay_after_view, overlay_of, peer_changes}

nobody_comes : (word : ℕ) (v : NodeViews) → peer_changes (draft_after ShuffleDue word v).out ≡ []
unfolding on_shuffle_due
nobody_comes word v =
    cond_both (is_empty v.active) (draft_of v) _ (λ (t : Draft). peer_changes t.out ≡ []) (λ _. refl) (λ _. refl)

pub after_shuffling : (word : ℕ) (o : Overlay)
    → overlay_of (views_of (draft_after ShuffleDue word o.views)) (after_call o.cast Tick)
    ≡ overlay_after_view ShuffleDue word (overlay_after_call Tick o)
after_shuffling word o =
    ap (λ changes. overlay_of (views_of (draft_after ShuffleDue word o.views)) (broadcast_after (after_call o.cast Tick) (map peer_call changes)))
    (sym (nobody_comes word o.views))
