-- Whom a node talks to: its views, and its broadcast, whose peers are the members of the active
-- view.
use Rattle.std.specs.Prelude.{ℕ, ◌≡◌, List, [], ◌∷◌, map}
use Rattle.meta_frame.specs.declared.message.Message.{Message}
use Rattle.peer_lists.specs.Lists.{has}
use Rattle.hyparview.specs.declared.event.ViewEvent.{ViewEvent}
use Rattle.hyparview.specs.declared.event.ViewOut.{ViewOut}
use Rattle.hyparview.specs.declared.event.ViewOut.TheVariants as OfViews
use Rattle.hyparview.specs.Lawful.{AreLawful, IsOfAnother}
use Rattle.hyparview.specs.Views as views
use Rattle.hyparview.specs.Views.{NodeViews, draft_after, views_of}
use Rattle.plumtree.specs.Broadcast as broadcast
use Rattle.plumtree.specs.Broadcast.{Broadcast, CastCall, Up, Down, draft_of, peer_call, row}
use Rattle.plumtree.specs.declared.entry.CastOut.{CastOut}
use Rattle.plumtree.specs.declared.entry.PeerChange.{PeerChange}
use Rattle.plumtree.specs.declared.entry.PeerChange.TheVariants as OfPeer
use Rattle.plumtree.specs.Lawful.{HasLinks, MayCome, NamesOthers, after_call, broadcast_after, is_peer}
use Rattle.node_overlay.specs.declared.envelope.Envelope.{Envelope}

pub record Overlay : Type 0 where
  pub views : NodeViews
  pub cast : Broadcast

-- the overlay of these two
abbrev pub overlay_of : NodeViews → Broadcast → Overlay
overlay_of views cast = record { views = views; cast = cast }

-- a node that knows nobody
abbrev pub empty_overlay : ℕ → Overlay
empty_overlay node = record { views = views.empty node; cast = broadcast.empty }

-- a message, and to whom it goes
abbrev pub envelope : ℕ → Message → Envelope
envelope to message = record { to = to; message = message }

-- ---- an event of the views; the broadcast hears who came and who went

-- who came and who went, in order
abbrev pub peer_changes : List ViewOut → List PeerChange
peer_changes [] = []
peer_changes (OfViews.Send to message ∷ outs) = peer_changes outs
peer_changes (OfViews.Up node ∷ outs) = OfPeer.Up node ∷ peer_changes outs
peer_changes (OfViews.Down node ∷ outs) = OfPeer.Down node ∷ peer_changes outs

-- the views are those after the event, and the broadcast has heard of each change
abbrev pub overlay_after_view : ViewEvent → ℕ → Overlay → Overlay
overlay_after_view event word o =
    let after = draft_after event word o.views in
    overlay_of (views_of after) (broadcast_after o.cast (map peer_call (peer_changes after.out)))

-- the messages among what was given out
abbrev pub messages_of : List ViewOut → List Envelope
messages_of [] = []
messages_of (OfViews.Send to message ∷ outs) = envelope to message ∷ messages_of outs
messages_of (OfViews.Up node ∷ outs) = messages_of outs
messages_of (OfViews.Down node ∷ outs) = messages_of outs

-- the messages that are sent for an event
abbrev pub sent_by_view : ViewEvent → ℕ → Overlay → List Envelope
sent_by_view event word o = messages_of (draft_after event word o.views).out

-- ---- a call of the broadcast

-- the views stay as they are
abbrev pub overlay_after_call : CastCall → Overlay → Overlay
overlay_after_call call o = overlay_of o.views (after_call o.cast call)

-- what the broadcast gives out
abbrev pub out_of : CastCall → Overlay → List CastOut
out_of call o = (row call (draft_of o.cast)).out

-- ---- what always holds

-- the views are lawful, and eager and lazy peers together are the active view
pub record ArePeers (o : Overlay) : Type 0 where
  pub lawful : AreLawful o.views.node o.views.active o.views.passive
  pub links : HasLinks o.cast
  pub same : (x : ℕ) → is_peer x o.cast ≡ has o.views.active x

-- what holds of a node's overlay: its peers are the active view, and it never names the node itself
pub record IsOverlay (o : Overlay) : Type 0 where
  pub peers : ArePeers o
  pub names_others : NamesOthers o.views.node o.cast

-- a call of the broadcast in which no peer comes or goes
abbrev pub IsOfNoPeer : CastCall → Type 0
IsOfNoPeer (Up node) = ⊥
IsOfNoPeer (Down node) = ⊥
IsOfNoPeer _ = Unit {0}

-- the peers are the active view of a node that knows nobody, and stay it with each event of the
-- views, and with each call of the broadcast that is of no peer
pub record StayPeers : Type 0 where
  pub begins : (node : ℕ) → ArePeers (empty_overlay node)
  pub views : (o : Overlay) (event : ViewEvent) (word : ℕ) → ArePeers o
      → ArePeers (overlay_after_view event word o)
  pub calls : (o : Overlay) (call : CastCall) → IsOfNoPeer call → ArePeers o
      → ArePeers (overlay_after_call call o)

-- a node that knows nobody names nobody, and what it hears of other nodes never makes it name
-- itself
pub record NamesOthersOn : Type 0 where
  pub begins : (node : ℕ) → IsOverlay (empty_overlay node)
  pub views : (o : Overlay) (event : ViewEvent) (word : ℕ) → IsOfAnother o.views.node event
      → IsOverlay o → IsOverlay (overlay_after_view event word o)
  pub calls : (o : Overlay) (call : CastCall) → IsOfNoPeer call → MayCome o.views.node call
      → IsOverlay o → IsOverlay (overlay_after_call call o)
