-- What a node does with each event and each message: the rows that take more than one small step,
-- and then the two tables, `on_message` and `row_of_event`.
use Rattle.std.specs.Prelude.{ℕ, ◌≡◌, nat_lt, Bool, not, List, [], ◌∷◌, ◌++◌, slice_index, slice_set, Option, Some, if◌then◌else◌}
use Rattle.peer_lists.specs.Lists.{has}
use Rattle.meta_types.specs.Name.{Key, Prefix}
use Rattle.meta_types.specs.Value.{ValueParts}
use Rattle.dvvset.specs.Object.{Entry, Counter}
use Rattle.dvvset.specs.Clock.{join}
use Rattle.meta_frame.specs.declared.message.Message.{Message}
use Rattle.meta_frame.specs.declared.message.Message.TheVariants.{Gossip, IHave, Graft, Prune, XRoot, XPrefixes, XInner, XLeaves, XBucket, XObject, XWant, Hello}
use Rattle.meta_frame.specs.declared.message.Frame.{Frame}
use Rattle.meta_frame.specs.Frame.{Spells}
use Rattle.meta_store.specs.Context.{Reading}
use Rattle.meta_store.specs.Step.{object_after_put, merge_of}
use Rattle.meta_store.specs.Table.{is_stale}
use Rattle.hash_tree.specs.Tree.{rows_of, tree_root}
use Rattle.exchange.specs.Answers.{answers_to}
use Rattle.hyparview.specs.declared.event.ViewEvent.TheVariants as OfViews
use Rattle.plumtree.specs.Broadcast.{TakesPrune, TakesIHave, TakesGraft, Tick as CastTick, gossip_call}
use Rattle.subscriptions.specs.Watching.{empty}
use Rattle.node_events.specs.declared.event.NodeEvent.{NodeEvent}
use Rattle.node_events.specs.declared.event.NodeEvent.TheVariants.{Read, Write, PutOver, Take, Tick, Join, PeerDown, Exchange, Keep, Watch, Changes, Hello as SayHello, Leave}
use Rattle.node_overlay.specs.Ticking.{is_due}
use Rattle.node_overlay.specs.Outbox.{count_on}
use Rattle.subscriptions.specs.Watches.{hand_out}
use Rattle.node_core.specs.Node.{NodeParts, present, vector_under, writer}
use Rattle.node_core.specs.Draft.{NodeDraft, send_one, send_all, call_broadcast, step_views, change, broadcast_held}
use Rattle.meta_types.specs.Chain.{◌▷◌}

-- ---- a write: what is held changes, and is broadcast

abbrev pub write : Key → ValueParts → Option Reading → NodeDraft → NodeDraft
write key value context t =
    t ▷ change key (object_after_put t.parts.table (writer t.parts) key value context)
    ▷ broadcast_held key

-- ---- an object that came: one that has a write which isn't known here is merged, any other
-- changes nothing

abbrev pub is_fresh : Key → List Entry → NodeParts → Bool
is_fresh key object s = not (is_stale s.table key (join object))

abbrev pub merge : Key → List Entry → NodeDraft → NodeDraft
merge key object t =
    if is_fresh key object t.parts then change key (merge_of t.parts.table key object) t else t

-- ---- GOSSIP: the merge, and then its row of the broadcast

abbrev pub row_of_gossip : ℕ → ℕ → Key → List Entry → NodeDraft → NodeDraft
row_of_gossip from round key object t =
    let merged = merge key object t in
    let fresh = is_fresh key object t.parts in
    call_broadcast (gossip_call from round key (vector_under key merged.parts) fresh) merged

-- ---- IHAVE and GRAFT, whose vector is compared with what is held

abbrev pub row_of_ihave : ℕ → ℕ → Key → List Counter → NodeDraft → NodeDraft
row_of_ihave from round key vector t =
    call_broadcast (TakesIHave from round key vector (is_stale t.parts.table key vector)) t

abbrev pub row_of_graft : ℕ → ℕ → Key → List Counter → NodeDraft → NodeDraft
row_of_graft from round key vector t =
    call_broadcast (TakesGraft from round key (is_stale t.parts.table key vector)) t

-- ---- HELLO: a life greater than any heard of its sender is noted, and the sender, if a neighbour,
-- is taken down, since it may have restarted

abbrev pub hear : ℕ → ℕ → NodeDraft → NodeDraft
hear from life t = record t { parts = record t.parts { heard = slice_set t.parts.heard from life } }

abbrev pub drop_neighbour : ℕ → ℕ → NodeDraft → NodeDraft
drop_neighbour node word t =
    if has t.parts.overlay.views.active node then step_views (OfViews.PeerDown node) word t else t

abbrev pub row_of_hello : ℕ → ℕ → ℕ → NodeDraft → NodeDraft
row_of_hello from life word t =
    if nat_lt (slice_index t.parts.heard from) life
    then t ▷ hear from life ▷ drop_neighbour from word
    else t

-- ---- a frame that came, by its message: those of an exchange are answered to their sender, an
-- object in one is merged and not broadcast, and those of the views go to the views

abbrev pub reply_to : ℕ → Message → NodeDraft → NodeDraft
reply_to from message t = send_all from (answers_to t.parts.table message) t

abbrev pub row_of_message : ℕ → ℕ → Message → NodeDraft → NodeDraft
row_of_message from word (Gossip round key object) = row_of_gossip from round key object
row_of_message from word (IHave round key vector) = row_of_ihave from round key vector
row_of_message from word (Graft round key vector) = row_of_graft from round key vector
row_of_message from word Prune = call_broadcast (TakesPrune from)
row_of_message from word (XRoot root) = reply_to from (XRoot root)
row_of_message from word (XPrefixes prefixes) = reply_to from (XPrefixes prefixes)
row_of_message from word (XInner prefix digests) = reply_to from (XInner prefix digests)
row_of_message from word (XLeaves prefix inner digests) =
    reply_to from (XLeaves prefix inner digests)
row_of_message from word (XBucket prefix leaf keys) = reply_to from (XBucket prefix leaf keys)
row_of_message from word (XWant key) = reply_to from (XWant key)
row_of_message from word (XObject key object) = merge key object
row_of_message from word (Hello life) = row_of_hello from life word
row_of_message from word message = step_views (OfViews.Taken from message) word

-- ---- a tick: announcements go out, what is overdue is asked for, and each tenth tick shuffles

abbrev pub count_tick : NodeDraft → NodeDraft
count_tick t = record t { parts = record t.parts { ticks = count_on t.parts.ticks 1 } }

abbrev pub shuffle_if_due : ℕ → NodeDraft → NodeDraft
shuffle_if_due word t = if is_due t.parts.ticks then step_views OfViews.ShuffleDue word t else t

abbrev pub tick : ℕ → NodeDraft → NodeDraft
tick word t = t ▷ count_tick ▷ call_broadcast CastTick ▷ shuffle_if_due word

-- ---- watches, which are numbered from 1

abbrev pub watch : Prefix → ℕ → NodeDraft → NodeDraft
watch prefix capacity t =
    record t { parts = record t.parts { watches = t.parts.watches ++ empty prefix capacity ∷ [] } }

abbrev pub hand_out_changes : ℕ → NodeDraft → NodeDraft
hand_out_changes number t =
    record t { parts = record t.parts { watches = hand_out number t.parts.watches } }

-- ---- what a node is asked to do: an event of its own, which is any but `Take` (`IsInput`), or a
-- frame that was received, with its word

pub data Input : Type 0 where
  Local : NodeEvent → Input
  Received : Frame → ℕ → Input

-- what the event asks for; the bytes of a `Take` spell the frame
abbrev pub IsInput : NodeEvent → Input → Type 0
IsInput (Take bytes word) (Local event) = ⊥
IsInput (Take bytes word) (Received frame w) = Spells frame bytes × (w ≡ word)
IsInput event (Local same) = same ≡ event
IsInput event (Received frame word) = ⊥

-- leaving makes no choice, so any word would do
abbrev pub row_of_event : NodeEvent → NodeDraft → NodeDraft
row_of_event (Read key) t = t
row_of_event (Write key value context) t = write key value context t
row_of_event (PutOver key value) t = write key value (Some (present key t.parts)) t
row_of_event (Take bytes word) t = t
row_of_event (Tick word) t = tick word t
row_of_event (Join contact word) t = step_views (OfViews.JoinThrough contact) word t
row_of_event (PeerDown peer word) t = step_views (OfViews.PeerDown peer) word t
row_of_event (Exchange peer) t = send_one peer (XRoot (tree_root (rows_of t.parts.table))) t
row_of_event (Keep key) t = t
row_of_event (Watch prefix capacity) t = watch prefix capacity t
row_of_event (Changes number) t = hand_out_changes number t
row_of_event (SayHello peer) t = send_one peer (Hello t.parts.incarnation) t
row_of_event Leave t = step_views OfViews.Leave 0 t

abbrev pub row_of_input : Input → NodeDraft → NodeDraft
row_of_input (Local event) = row_of_event event
row_of_input (Received frame word) = row_of_message frame.from word frame.message
