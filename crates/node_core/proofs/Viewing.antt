-- What an event of the views, a tick and HELLO do, in the order of the code, is what the table says.
use Rattle.std.proofs.Common.{◌≡◌, ℕ, ◌-◌, Bool, true, false, if◌then◌else◌, List, [], ◌∷◌, ◌++◌, map, length, All, nat_lt, slice_index, slice_set, Option, None, refl, sym, ap, ◌∙◌}
use Rattle.std.proofs.lemmas.Bool.{cond_both}
use Rattle.std.proofs.lemmas.List.Elements.{All-nil, All-cons, All-head, All-tail, All-push}
use Rattle.meta_frame.specs.declared.message.Message.{Message}
use Rattle.meta_frame.specs.declared.message.Message.TheVariants.{Graft, Join, ForwardJoin, Disconnect, Neighbor, NeighborReply, Shuffle, ShuffleReply, Bye}
use Rattle.meta_frame.specs.Frame.{spelling}
use Rattle.meta_store.specs.Table.{Table}
use Rattle.peer_lists.specs.Lists.{has}
use Rattle.hyparview.specs.declared.event.ViewEvent.{ViewEvent}
use Rattle.hyparview.specs.declared.event.ViewEvent.TheVariants.{PeerDown, ShuffleDue, Taken}
use Rattle.hyparview.specs.Lawful.{IsOfViews}
use Rattle.hyparview.specs.Views.{draft_after, views_of}
use Rattle.hyparview.proofs.Standing.{each_step_tells_it_all}
use Rattle.plumtree.specs.declared.entry.Announcement.{Announcement}
use Rattle.plumtree.specs.declared.entry.Announcer.{Announcer}
use Rattle.plumtree.specs.declared.entry.CastOut.{CastOut}
use Rattle.plumtree.specs.declared.entry.CastOut.TheVariants as OfCast
use Rattle.plumtree.specs.Missing.{MissingObject}
use Rattle.plumtree.specs.Draft as cast
use Rattle.plumtree.specs.Rows.{ask_first, ihave_of, keep, none_missing, on_tick, send_announcements, tick_each, tick_one}
use Rattle.plumtree.specs.Broadcast.{Tick, draft_of}
use Rattle.node_events.specs.declared.fault.StepFault.{StepFault}
use Rattle.node_events.specs.declared.reply.Reply.{Reply}
use Rattle.node_events.specs.declared.reply.Reply.TheVariants.{Took}
use Rattle.node_core.specs.declared.state.Stepped.{Stepped}
use Rattle.node_overlay.specs.declared.envelope.Envelope.{Envelope}
use Rattle.node_overlay.specs.Origin.{whole_messages}
use Rattle.node_overlay.specs.Ticking.{overlay_after_tick, is_due, sent_by_tick}
use Rattle.node_overlay.specs.Outbox.{HasSpelling, count_on, frames_from}
use Rattle.node_overlay.specs.Overlay.{IsOverlay, Overlay, overlay_after_view, envelope, out_of, sent_by_view, overlay_after_call}
use Rattle.node_overlay.proofs.Naming.{names_others_on}
use Rattle.node_core.specs.Node.{IsInLife, NodeParts, with_overlay}
use Rattle.node_core.specs.Draft.{NodeDraft, envelope_of, step_views}
use Rattle.node_core.specs.Rows.{drop_neighbour, hear, row_of_hello, row_of_message, shuffle_if_due, tick}
use Rattle.node_core.specs.Step.{IsStepTo, begun, with_counts, refusal_of_message, reply_of_message}
use Rattle.node_core.proofs.Making.{made}

-- ---- a step that ends with this outbox

pub finished : (old mid new : NodeParts) (refusal : Option StepFault) (done : NodeDraft) (reply : Reply) (outbox : List (List ℕ)) (stepped : Stepped)
    → refusal ≡ None → mid ≡ done.parts
    → outbox ≡ map spelling (frames_from old.node old.frames done.sent)
    → All HasSpelling (frames_from old.node old.frames done.sent)
    → new ≡ with_counts (length outbox) mid → stepped ≡ record { reply = reply; outbox = outbox }
    → IsStepTo old refusal done reply new stepped
finished old mid new refusal done reply outbox stepped accepted is sends frames counts value =
    let same : stepped.outbox ≡ outbox = ap (λ (s : Stepped). s.outbox) value in
    made old done.parts new refusal done reply done.sent stepped accepted refl (ap (λ (s : Stepped). s.reply) value)
    (same ∙ sends) frames
    (counts ∙ ap (with_counts (length outbox)) is ∙ ap (λ outbox. with_counts (length outbox) done.parts) (sym same))

-- ---- the views stay the node's own

pub views_of_node : (event : ViewEvent) (word : ℕ) (o : Overlay) → IsOverlay o
    → (overlay_after_view event word o).views.node ≡ o.views.node
views_of_node event word o h =
    let after = draft_after event word o.views in
    let tells = each_step_tells_it_all o.views event word (views_of after) after.out h.peers.lawful (record { views = refl; gives = refl }) in
    tells.node

pub ticked_of_node : (ticks word : ℕ) (o : Overlay) → IsOverlay o
    → (overlay_after_tick ticks word o).views.node ≡ o.views.node
ticked_of_node ticks word o h =
    cond_both (is_due ticks) (overlay_after_view ShuffleDue word (overlay_after_call Tick o)) (overlay_after_call Tick o) (λ (x : Overlay). x.views.node ≡ o.views.node)
    (λ _. views_of_node ShuffleDue word (overlay_after_call Tick o) (names_others_on.calls o Tick tt tt h)) (λ _. refl)

-- so a node whose overlay changes stays in its life
pub IsInLife-same : {s : NodeParts} (o : Overlay) → o.views.node ≡ s.overlay.views.node → IsInLife s
    → IsInLife (with_overlay o s)
IsInLife-same o same h = record { own_views = same ∙ h.own_views; lives = h.lives }

-- ---- a message of the views

pub views_taken : (from word : ℕ) (message : Message) (t : NodeDraft) → IsOfViews message
    → row_of_message from word message t ≡ step_views (Taken from message) word t
views_taken from word Join t of = refl
views_taken from word (ForwardJoin node ttl) t of = refl
views_taken from word Disconnect t of = refl
views_taken from word (Neighbor priority) t of = refl
views_taken from word (NeighborReply answer) t of = refl
views_taken from word (Shuffle origin ttl nodes) t of = refl
views_taken from word (ShuffleReply nodes) t of = refl
views_taken from word Bye t of = refl
views_taken from word _ t of = absurd of

pub views_accepted : (message : Message) (s : NodeParts) → IsOfViews message → refusal_of_message message s ≡ None
views_accepted Join s of = refl
views_accepted (ForwardJoin node ttl) s of = refl
views_accepted Disconnect s of = refl
views_accepted (Neighbor priority) s of = refl
views_accepted (NeighborReply answer) s of = refl
views_accepted (Shuffle origin ttl nodes) s of = refl
views_accepted (ShuffleReply nodes) s of = refl
views_accepted Bye s of = refl
views_accepted _ s of = absurd of

pub views_took : (message : Message) (s : NodeParts) → IsOfViews message → reply_of_message message s ≡ Took
views_took Join s of = refl
views_took (ForwardJoin node ttl) s of = refl
views_took Disconnect s of = refl
views_took (Neighbor priority) s of = refl
views_took (NeighborReply answer) s of = refl
views_took (Shuffle origin ttl nodes) s of = refl
views_took (ShuffleReply nodes) s of = refl
views_took Bye s of = refl
views_took _ s of = absurd of

-- ---- a tick of the broadcast gives out no GOSSIP

abbrev IsWhole : CastOut → Type 0
IsWhole (OfCast.Gossip to round key) = ⊥
IsWhole (OfCast.Send to message) = Unit {0}

whole_announcements : (queue : List Announcement) → All IsWhole (map ihave_of queue)
whole_announcements [] = All-nil IsWhole
whole_announcements (a ∷ queue) = All-cons IsWhole (ihave_of a) (map ihave_of queue) tt (whole_announcements queue)

whole-ask_first : (m : MissingObject) (announcers : List Announcer) (t : cast.Draft) → All IsWhole t.out
    → All IsWhole (ask_first m announcers t).out
whole-ask_first m [] t h = h
whole-ask_first m (a ∷ others) t h = All-push IsWhole t.out (OfCast.Send a.peer (Graft a.round m.key m.vector)) h tt

whole-tick_one : (m : MissingObject) (t : cast.Draft) → All IsWhole t.out → All IsWhole (tick_one m t).out
unfolding tick_one
whole-tick_one m t h =
    cond_both (nat_lt 1 m.ticks) (keep (record m { ticks = m.ticks - 1 }) t) (ask_first m m.announcers t) (λ (t : cast.Draft). All IsWhole t.out)
    (λ _. h) (λ _. whole-ask_first m m.announcers t h)

whole-tick_each : (ms : List MissingObject) (t : cast.Draft) → All IsWhole t.out → All IsWhole (tick_each ms t).out
whole-tick_each [] t h = h
whole-tick_each (m ∷ ms) t h = whole-tick_each ms (tick_one m t) (whole-tick_one m t h)

whole-tick : (o : Overlay) → All IsWhole (out_of Tick o)
unfolding on_tick
whole-tick o =
    whole-tick_each o.cast.missing (none_missing (send_announcements (draft_of o.cast))) (whole_announcements o.cast.queue)

as_envelopes : (table : Table) (outs : List CastOut) → All IsWhole outs → map (envelope_of table) outs ≡ whole_messages outs
as_envelopes table [] h = refl
as_envelopes table (OfCast.Gossip to round key ∷ outs) h = absurd (All-head IsWhole (OfCast.Gossip to round key) outs h)
as_envelopes table (OfCast.Send to message ∷ outs) h =
    ap (λ sent. envelope to message ∷ sent) (as_envelopes table outs (All-tail IsWhole (OfCast.Send to message) outs h))

-- ---- a tick

-- after the broadcast's tick, with what is sent by then
cast_ticked : ℕ → List Envelope → NodeParts → NodeDraft
cast_ticked ticks sent s = record {
  parts = record s { ticks = ticks; overlay = overlay_after_call Tick s.overlay };
  sent = sent;
}

then_shuffled : (due : Bool) (ticks word : ℕ) (sent : List Envelope) (s : NodeParts)
    → (if due then step_views ShuffleDue word (cast_ticked ticks sent s) else cast_ticked ticks sent s) ≡ record {
      parts = record s {
        overlay = if due then overlay_after_view ShuffleDue word (overlay_after_call Tick s.overlay) else overlay_after_call Tick s.overlay;
        ticks = ticks;
      };
      sent = if due then sent ++ sent_by_view ShuffleDue word (overlay_after_call Tick s.overlay) else sent;
    }
unfolding cast_ticked
then_shuffled true ticks word sent s = refl
then_shuffled false ticks word sent s = refl

-- the whole of a tick
pub ticked : (word : ℕ) (s : NodeParts)
    → tick word (begun s) ≡ record {
      parts = record s {
        overlay = overlay_after_tick (count_on s.ticks 1) word s.overlay;
        ticks = count_on s.ticks 1;
      };
      sent = sent_by_tick (count_on s.ticks 1) word s.overlay;
    }
unfolding cast_ticked
ticked word s =
    let ticks = count_on s.ticks 1 in
    ap (λ sent. shuffle_if_due word (cast_ticked ticks sent s)) (as_envelopes s.table (out_of Tick s.overlay) (whole-tick s.overlay))
    ∙ then_shuffled (is_due ticks) ticks word (whole_messages (out_of Tick s.overlay)) s

-- ---- HELLO

-- what is heard, and whether the sender is a neighbour, don't touch each other
dropped_where : (neighbour : Bool) (from life word : ℕ) (s : NodeParts)
    → (if neighbour then step_views (PeerDown from) word (hear from life (begun s)) else hear from life (begun s)) ≡
    (let done = if neighbour then step_views (PeerDown from) word (begun s) else begun s in record {
      parts = record done.parts { heard = slice_set done.parts.heard from life };
      sent = done.sent;
    })
dropped_where true from life word s = refl
dropped_where false from life word s = refl

hello_where : Bool → ℕ → ℕ → ℕ → NodeParts → NodeDraft
hello_where older from life word s =
    if older then drop_neighbour from word (hear from life (begun s)) else begun s

-- a greater life than was heard
pub came_anew : (from life word : ℕ) (s : NodeParts) → nat_lt (slice_index s.heard from) life ≡ true
    → row_of_hello from life word (begun s) ≡
    (let done = drop_neighbour from word (begun s) in record {
      parts = record done.parts { heard = slice_set done.parts.heard from life };
      sent = done.sent;
    })
unfolding hello_where
came_anew from life word s older =
    ap (λ is. hello_where is from life word s) older ∙ dropped_where (has s.overlay.views.active from) from life word s

-- a life no greater than was heard
pub known_life : (from life word : ℕ) (s : NodeParts) → nat_lt (slice_index s.heard from) life ≡ false
    → row_of_hello from life word (begun s) ≡ begun s
unfolding hello_where
known_life from life word s known = ap (λ is. hello_where is from life word s) known
