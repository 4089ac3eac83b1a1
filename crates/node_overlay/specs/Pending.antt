-- What an overlay was asked, made so far that nothing more can fail: what it becomes if that is
-- ended, and what it was.
use Rattle.std.specs.Prelude.{◌≡◌, map}
use Rattle.plumtree.specs.Broadcast.{Broadcast, Tick, peer_call}
use Rattle.plumtree.specs.Lawful.{after_call, broadcast_after}
use Rattle.plumtree.specs.Savepoint.{rolled_back, with_noted_back}
use Rattle.plumtree.specs.Ticking.{with_peers}
use Rattle.node_overlay.specs.declared.pending.Pending.{Pending}
use Rattle.node_overlay.specs.declared.pending.Pending.TheVariants.{Called, Noted, Views, Tick as OfTick, Shuffle}
use Rattle.node_overlay.specs.Overlay.{IsOverlay, Overlay, overlay_of}

-- the views stay, and this is the broadcast
abbrev pub with_cast : Broadcast → Overlay → Overlay
with_cast cast o = overlay_of o.views cast

-- what is pending is done: the views and the peers are those that were foreseen, and what waits
-- hears who came and who went, or makes a tick
abbrev pub after_pending : Pending → Overlay → Overlay
after_pending (Called savepoint) o = o
after_pending (Noted noted) o = o
after_pending (Views views peers changes) o =
    overlay_of views (with_peers peers (broadcast_after o.cast (map peer_call changes.items)))
after_pending (OfTick peers) o = with_cast (with_peers peers (after_call o.cast Tick)) o
after_pending (Shuffle views peers) o = overlay_of views (with_peers peers (after_call o.cast Tick))

-- a call of the broadcast that was made is taken back; what was only foreseen changed nothing
abbrev pub before_pending : Pending → Overlay → Overlay
before_pending (Called savepoint) o = with_cast (rolled_back savepoint o.cast) o
before_pending (Noted noted) o = with_cast (with_noted_back noted o.cast) o
before_pending (Views views peers changes) o = o
before_pending (OfTick peers) o = o
before_pending (Shuffle views peers) o = o

-- it can be ended, and taken back: both leave an overlay
pub record CanEndPending (p : Pending) (o : Overlay) : Type 0 where
  pub ended : IsOverlay (after_pending p o)
  pub taken_back : IsOverlay (before_pending p o)

-- this is pending: ended, it makes this overlay, and taken back, the old one; meanwhile the views
-- are the old ones
pub record Pends (p : Pending) (old new after : Overlay) : Type 0 where
  pub ends : after_pending p new ≡ after
  pub back : before_pending p new ≡ old
  pub views : new.views ≡ old.views
  pub can_end : CanEndPending p new
