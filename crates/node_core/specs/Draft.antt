-- A node in the midst of a step, with the messages that it has given out so far, and the small
-- steps that the rows of the table are made of.
use Rattle.std.specs.Prelude.{ℕ, List, [], ◌∷◌, ◌++◌, map}
use Rattle.meta_types.specs.Chain.{◌▷◌}
use Rattle.meta_types.specs.Name.{Key}
use Rattle.dvvset.specs.Object.{Entry}
use Rattle.meta_frame.specs.declared.message.Message.{Message}
use Rattle.meta_frame.specs.declared.message.Message.TheVariants.{Gossip}
use Rattle.meta_store.specs.Table.{Table, object_at, with_object}
use Rattle.hyparview.specs.declared.event.ViewEvent.{ViewEvent}
use Rattle.plumtree.specs.declared.entry.CastOut.{CastOut}
use Rattle.plumtree.specs.declared.entry.CastOut.TheVariants as OfCast
use Rattle.plumtree.specs.Broadcast.{CastCall, Changes, Broadcasts}
use Rattle.subscriptions.specs.declared.change.Change.{Change}
use Rattle.subscriptions.specs.Watching.{with_change}
use Rattle.node_core.specs.Node.{NodeParts, vector_under, with_overlay}
use Rattle.node_overlay.specs.Overlay.{overlay_after_view, envelope, out_of, sent_by_view, overlay_after_call}
use Rattle.node_overlay.specs.declared.envelope.Envelope.{Envelope}

pub record NodeDraft : Type 0 where
  pub parts : NodeParts
  pub sent : List Envelope

-- ---- what is sent goes last

abbrev pub send_one : ℕ → Message → NodeDraft → NodeDraft
send_one to message t = record t { sent = t.sent ++ envelope to message ∷ [] }

-- all of these go to one node
abbrev pub send_all : ℕ → List Message → NodeDraft → NodeDraft
send_all to messages t = record t { sent = t.sent ++ map (envelope to) messages }

-- ---- the broadcast, which holds no objects: a GOSSIP that it gives out takes the one held then

abbrev pub envelope_of : Table → CastOut → Envelope
envelope_of table (OfCast.Gossip to round key) =
    envelope to (Gossip round key (object_at table key))
envelope_of table (OfCast.Send to message) = envelope to message

abbrev pub call_broadcast : CastCall → NodeDraft → NodeDraft
call_broadcast call t =
    record t {
      parts = with_overlay (overlay_after_call call t.parts.overlay) t.parts;
      sent = t.sent ++ map (envelope_of t.parts.table) (out_of call t.parts.overlay);
    }

-- ---- the views; the broadcast hears who came and who went

abbrev pub step_views : ViewEvent → ℕ → NodeDraft → NodeDraft
step_views event word t =
    record t {
      parts = with_overlay (overlay_after_view event word t.parts.overlay) t.parts;
      sent = t.sent ++ sent_by_view event word t.parts.overlay;
    }

-- ---- the table, and who hears of a change: the watches, and the broadcast, which stops waiting
-- for what is known

abbrev pub hold : Key → List Entry → NodeDraft → NodeDraft
hold key object t =
    record t { parts = record t.parts { table = with_object key object t.parts.table } }

abbrev pub change_under : Key → NodeParts → Change
change_under key s = record { key = key; vector = vector_under key s }

abbrev pub note : Change → NodeDraft → NodeDraft
note change t =
    record t { parts = record t.parts { watches = map (with_change change) t.parts.watches } }

-- the object under the key is this one now
abbrev pub change : Key → List Entry → NodeDraft → NodeDraft
change key object t =
    let new = hold key object t in
    new ▷ note (change_under key new.parts)
    ▷ call_broadcast (Changes key (vector_under key new.parts))

-- what is held under the key goes to each eager peer; for each lazy one its announcement waits
abbrev pub broadcast_held : Key → NodeDraft → NodeDraft
broadcast_held key t = call_broadcast (Broadcasts key (vector_under key t.parts)) t
