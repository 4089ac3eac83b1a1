-- Messages to other nodes whose fields have a spelling go out as frames that have one.
use Rattle.std.proofs.Common.{ℕ, ◌<◌, ◌^◌, List, [], ◌∷◌, map, All, refl, sym, arith}
use Rattle.std.proofs.lemmas.List.Elements.{All-cons, All-head, All-nil, All-tail}
use Rattle.meta_types.specs.Name.{Key}
use Rattle.meta_types.specs.Node.{IsNode}
use Rattle.frame_fields.specs.Field.{key}
use Rattle.meta_frame.specs.Frame.{IsMessage}
use Rattle.meta_frame.specs.declared.message.Message.{Message}
use Rattle.meta_frame.specs.declared.message.Message.TheVariants.{IHave, Graft, Prune}
use Rattle.meta_store.specs.Table.{IsHeld, Table, object_at}
use Rattle.meta_store.proofs.Sizes.{held_fits}
use Rattle.hyparview.specs.declared.event.ViewOut.{ViewOut}
use Rattle.hyparview.specs.declared.event.ViewOut.TheVariants as OfViews
use Rattle.plumtree.specs.Broadcast.{Broadcast}
use Rattle.plumtree.specs.declared.entry.CastOut.{CastOut}
use Rattle.plumtree.specs.declared.entry.CastOut.TheVariants as OfCast
use Rattle.plumtree.specs.Broadcast as broadcast
use Rattle.plumtree.specs.Lawful.{IsOfBroadcast, MayBeSent, after_call, broadcast_after}
use Rattle.node_overlay.specs.declared.envelope.Envelope.{Envelope}
use Rattle.node_overlay.specs.Outbox.{HasSpelling, IsSendable, MaySend, count_on, frame_of, frames_from}
use Rattle.node_overlay.specs.Overlay.{envelope, messages_of, peer_changes}
use Rattle.node_overlay.proofs.Sendable.{frame_short}
use Rattle.node_core.specs.Draft.{envelope_of}
use Rattle.node_outcomes.specs.Lawful.{NamesNodes}
use Rattle.node_outcomes.proofs.Views.{IsSpelledOut}
use Rattle.node_outcomes.proofs.Peers.{IsToNode, NamesNodes-call}

-- such a message goes to another node, and its fields have a spelling
pub record IsSpelled (node : ℕ) (e : Envelope) : Type 0 where
  pub to : IsNode e.to
  pub may : MaySend node e
  pub message : IsMessage e.message

counted : (n more : ℕ) → count_on n more < 2 ^ 64
counted n more = omega arith

-- ---- frames

frame_spelled : (node number : ℕ) (e : Envelope) → IsNode node → number < 2 ^ 64 → IsSpelled node e
    → HasSpelling (frame_of node number e)
frame_spelled node number e own low is = record {
  lawful = record { from = own; to = is.to; apart = λ same. is.may.apart (sym same); number = low; message = is.message };
  spelled = refl;
  short = frame_short (frame_of node number e) is.may.sendable is.message;
}

pub frames_spelled : (node number : ℕ) (es : List Envelope) → IsNode node → All (IsSpelled node) es
    → All HasSpelling (frames_from node number es)
frames_spelled node number [] own all = All-nil HasSpelling
frames_spelled node number (e ∷ es) own all =
    let next = count_on number 1 in
    All-cons HasSpelling (frame_of node next e) (frames_from node next es)
    (frame_spelled node next e own (counted number 1) (All-head (IsSpelled node) e es all))
    (frames_spelled node next es own (All-tail (IsSpelled node) e es all))

-- ---- all to one node

pub addressed : (node to : ℕ) (ms : List Message) → IsNode to → All (MaySend node) (map (envelope to) ms) → All IsMessage ms
    → All (IsSpelled node) (map (envelope to) ms)
addressed node to [] is may fits = All-nil (IsSpelled node)
addressed node to (m ∷ ms) is may fits =
    All-cons (IsSpelled node) (envelope to m) (map (envelope to) ms)
    (record {
      to = is;
      may = All-head (MaySend node) (envelope to m) (map (envelope to) ms) may;
      message = All-head IsMessage m ms fits;
    })
    (addressed node to ms is (All-tail (MaySend node) (envelope to m) (map (envelope to) ms) may) (All-tail IsMessage m ms fits))

-- ---- what the views give out

pub messages_spelled : (node : ℕ) (outs : List ViewOut) → All (MaySend node) (messages_of outs) → All IsSpelledOut outs
    → All (IsSpelled node) (messages_of outs)
messages_spelled node [] may fits = All-nil (IsSpelled node)
messages_spelled node (OfViews.Send to m ∷ outs) may fits =
    let first = All-head IsSpelledOut (OfViews.Send to m) outs fits in
    All-cons (IsSpelled node) (envelope to m) (messages_of outs)
    (record { to = first.0; may = All-head (MaySend node) (envelope to m) (messages_of outs) may; message = first.1 })
    (messages_spelled node outs (All-tail (MaySend node) (envelope to m) (messages_of outs) may)
    (All-tail IsSpelledOut (OfViews.Send to m) outs fits))
messages_spelled node (OfViews.Up x ∷ outs) may fits =
    messages_spelled node outs may (All-tail IsSpelledOut (OfViews.Up x) outs fits)
messages_spelled node (OfViews.Down x ∷ outs) may fits =
    messages_spelled node outs may (All-tail IsSpelledOut (OfViews.Down x) outs fits)

-- and whoever comes is a node
pub peers_named : (outs : List ViewOut) (b : Broadcast) → All IsSpelledOut outs → NamesNodes b
    → NamesNodes (broadcast_after b (map broadcast.peer_call (peer_changes outs)))
peers_named [] b fits h = h
peers_named (OfViews.Send to m ∷ outs) b fits h = peers_named outs b (All-tail IsSpelledOut (OfViews.Send to m) outs fits) h
peers_named (OfViews.Up x ∷ outs) b fits h =
    peers_named outs (after_call b (broadcast.Up x)) (All-tail IsSpelledOut (OfViews.Up x) outs fits)
    (NamesNodes-call (λ _. Unit {0}) b (broadcast.Up x) h (All-head IsSpelledOut (OfViews.Up x) outs fits))
peers_named (OfViews.Down x ∷ outs) b fits h =
    peers_named outs (after_call b (broadcast.Down x)) (All-tail IsSpelledOut (OfViews.Down x) outs fits)
    (NamesNodes-call (λ _. Unit {0}) b (broadcast.Down x) h tt)

-- ---- what the broadcast gives out

-- a lawful key, under which an object is held
abbrev pub IsHeldUnder : Table → Key → Type 0
IsHeldUnder table k = key.Fits k × IsHeld (object_at table k)

sendable_of_broadcast : (m : Message) → IsOfBroadcast m → IsSendable m × IsMessage m
sendable_of_broadcast (IHave round k vector) of = (of.1.1, of)
sendable_of_broadcast (Graft round k vector) of = (of.1.1, of)
sendable_of_broadcast Prune of = (tt, of)
sendable_of_broadcast _ of = absurd of

out_spelled : (node : ℕ) (table : Table) (out : CastOut) → MayBeSent node out → IsToNode (IsHeldUnder table) out
    → IsSpelled node (envelope_of table out)
out_spelled node table (OfCast.Gossip to round k) may is = record {
  to = is.0;
  may = record { apart = may; sendable = is.2.1 };
  message = (is.1, (is.2.0, held_fits (object_at table k) is.2.1));
}
out_spelled node table (OfCast.Send to m) may is =
    let fits = sendable_of_broadcast m may.1 in
    record { to = is; may = record { apart = may.0; sendable = fits.0 }; message = fits.1 }

pub outs_spelled : (node : ℕ) (table : Table) (outs : List CastOut) → All (MayBeSent node) outs
    → All (IsToNode (IsHeldUnder table)) outs
    → All (IsSpelled node) (map (envelope_of table) outs)
outs_spelled node table [] may is = All-nil (IsSpelled node)
outs_spelled node table (out ∷ outs) may is =
    All-cons (IsSpelled node) (envelope_of table out) (map (envelope_of table) outs)
    (out_spelled node table out (All-head (MayBeSent node) out outs may) (All-head (IsToNode (IsHeldUnder table)) out outs is))
    (outs_spelled node table outs (All-tail (MayBeSent node) out outs may) (All-tail (IsToNode (IsHeldUnder table)) out outs is))
