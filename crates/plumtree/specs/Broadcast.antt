-- The broadcast of a node, and one call of it.
use Rattle.std.specs.Prelude.{ℕ, ◌≡◌, Bool, true, false, List, []}
use Rattle.meta_types.specs.Name.{Key}
use Rattle.dvvset.specs.Object.{Counter}
use Rattle.plumtree.specs.declared.entry.Announcement.{Announcement}
use Rattle.plumtree.specs.declared.entry.CastOut.{CastOut}
use Rattle.plumtree.specs.declared.entry.PeerChange.{PeerChange}
use Rattle.plumtree.specs.declared.entry.PeerChange.TheVariants as OfPeer
use Rattle.plumtree.specs.Missing.{MissingObject}
use Rattle.plumtree.specs.Draft.{Draft}
use Rattle.plumtree.specs.Rows.{up, down, on_broadcast, on_fresh, on_stale, on_prune, on_ihave, on_graft, on_change, on_tick}

-- eager and lazy peers, the announcements that wait for the next tick, and the objects that the
-- node waits for
pub record Broadcast : Type 0 where
  pub eager : List ℕ
  pub lazy : List ℕ
  pub queue : List Announcement
  pub missing : List MissingObject

abbrev pub broadcast_with : List ℕ → List ℕ → List Announcement → List MissingObject → Broadcast
broadcast_with eager lazy queue missing =
    record { eager = eager; lazy = lazy; queue = queue; missing = missing }

-- a node without peers
abbrev pub empty : Broadcast
empty = record { eager = []; lazy = []; queue = []; missing = [] }

-- a call begins with what the node has, and has given out nothing
abbrev pub draft_of : Broadcast → Draft
draft_of b = record {
  eager = b.eager;
  lazy = b.lazy;
  queue = b.queue;
  missing = b.missing;
  out = [];
}

abbrev pub broadcast_of : Draft → Broadcast
broadcast_of t = record { eager = t.eager; lazy = t.lazy; queue = t.queue; missing = t.missing }

-- the calls, one for each row of the table
pub data CastCall : Type 0 where
  Up : ℕ → CastCall
  Down : ℕ → CastCall
  Broadcasts : Key → List Counter → CastCall
  TakesFresh : ℕ → ℕ → Key → List Counter → CastCall
  TakesStale : ℕ → CastCall
  TakesPrune : ℕ → CastCall
  TakesIHave : ℕ → ℕ → Key → List Counter → Bool → CastCall
  TakesGraft : ℕ → ℕ → Key → Bool → CastCall
  Changes : Key → List Counter → CastCall
  Tick : CastCall

-- GOSSIP, whose object is fresh or not
abbrev pub gossip_call : ℕ → ℕ → Key → List Counter → Bool → CastCall
gossip_call from round key vector true = TakesFresh from round key vector
gossip_call from round key vector false = TakesStale from

-- a change of who is a peer
abbrev pub peer_call : PeerChange → CastCall
peer_call (OfPeer.Up node) = Up node
peer_call (OfPeer.Down node) = Down node

abbrev pub row : CastCall → Draft → Draft
row (Up node) = up node
row (Down node) = down node
row (Broadcasts key vector) = on_broadcast key vector
row (TakesFresh from round key vector) = on_fresh from round key vector
row (TakesStale from) = on_stale from
row (TakesPrune from) = on_prune from
row (TakesIHave from round key vector stale) = on_ihave from round key vector stale
row (TakesGraft from round key held) = on_graft from round key held
row (Changes key vector) = on_change key vector
row Tick = on_tick

-- a call takes the old broadcast to the new one, and gives this out
pub record IsCall (call : CastCall) (old new : Broadcast) (out : List CastOut) : Type 0 where
  pub broadcast : new ≡ broadcast_of (row call (draft_of old))
  pub gives : out ≡ (row call (draft_of old)).out
