-- A write in a world where eager peers make a tree, and the delivery of each frame that it brings
-- forth. The rule is our own.
use Rattle.std.specs.Prelude.{◌≡◌, ◌≢◌, ℕ, ◌<◌, ◌≤◌, true, false, List, [], ◌∷◌, ◌++◌, length, map, slice_get, All, Option, Some, Ok}
use Rattle.meta_types.specs.Name.{Key}
use Rattle.meta_types.specs.Value.{ValueParts}
use Rattle.meta_frame.specs.declared.message.Frame.{Frame}
use Rattle.meta_frame.specs.declared.message.Message.{Message}
use Rattle.meta_frame.specs.declared.message.Message.TheVariants.{Gossip}
use Rattle.meta_frame.specs.Frame.{spelling}
use Rattle.meta_store.specs.Table.{object_at}
use Rattle.peer_lists.specs.Lists.{has}
use Rattle.past_model.specs.declared.happening.Happening.TheVariants.{Wrote}
use Rattle.past_model.specs.Past.{known}
use Rattle.node_events.specs.declared.event.NodeEvent.TheVariants.{Write, PutOver}
use Rattle.world_core.specs.declared.answer.Accepted.{Accepted}
use Rattle.world_core.specs.declared.event.Event.{Event}
use Rattle.world_core.specs.declared.event.Event.TheVariants as events
use Rattle.world_core.specs.Knowledge.{OfAllTold}
use Rattle.world_core.specs.Outcome.{Passes}
use Rattle.world_core.specs.Refusal.{node_at, table_at}
use Rattle.world_core.specs.Tells.{Told}
use Rattle.world_core.specs.World.{World}
use Rattle.agreement.specs.Rounds.{Exchange}
use Rattle.agreement.specs.Tree.{IsTree, after_passing_all, are_joined, is_in, outwards}
use Rattle.agreement.specs.World.{AcceptsAll, IsDeliveryOf, numbers_of}

-- ---- the tree

-- the node's eager peers
abbrev pub eager_of : World → ℕ → List ℕ
eager_of w n = (node_at w n).state.overlay.cast.eager

-- the eager peers of each node of the tree are the nodes that an edge joins it with; so of two
-- nodes of the tree each is an eager peer of the other, or neither is
pub record IsEagerTree (w : World) (root : ℕ) (edges : List Exchange) : Type 0 where
  pub tree : IsTree root edges
  pub eager : (n m : ℕ) → is_in root edges n ≡ true
      → has (eager_of w n) m ≡ are_joined edges n m

-- ---- the schedule

-- the event is a write of this value by the node under the key
abbrev pub IsWriteOf : ℕ → Key → ValueParts → Event → Type 0
IsWriteOf n k v (events.Step m (Write l u context)) = (m ≡ n) × ((l ≡ k) × (u ≡ v))
IsWriteOf n k v (events.Step m (PutOver l u)) = (m ≡ n) × ((l ≡ k) × (u ≡ v))
IsWriteOf n k v (events.Put m l u read) = (m ≡ n) × ((l ≡ k) × (u ≡ v))
IsWriteOf n k v event = ⊥

-- the event delivers one of the frames that are pending; then the others are, and what it sent
pub record DeliversOne (pending : List ℕ) (a : Accepted) (left : List ℕ) : Type 0 where
  pub front : List ℕ
  pub number : ℕ
  pub back : List ℕ
  pub was : pending ≡ front ++ number ∷ back
  pub delivers : IsDeliveryOf number a.event
  pub leaves : left ≡ (front ++ back) ++ numbers_of a.answer.sent

-- the accepted events deliver each frame that is pending, and each that they send, once and in any
-- order
abbrev pub DeliverInAnyOrder : List ℕ → List Accepted → Type 0
DeliverInAnyOrder pending [] = pending ≡ []
DeliverInAnyOrder pending (a ∷ later) =
    (left : List ℕ) × (DeliversOne pending a left × DeliverInAnyOrder left later)

-- eager peers make a tree over a node, which writes, and this is the world that the write leaves;
-- then each frame that it brings forth is delivered, and nothing else happens
pub record Broadcasts (world : World) : Type 0 where
  pub writer : ℕ
  pub key : Key
  pub value : ValueParts
  pub edges : List Exchange
  pub before : World
  pub tree : IsEagerTree before writer edges
  pub write : Accepted
  pub is_write : IsWriteOf writer key value write.event
  pub wrote : Passes before write.event (Ok write.answer) world
  pub deliveries : List Accepted
  pub whole : DeliverInAnyOrder (numbers_of write.answer.sent) deliveries
  pub after : World
  pub accepts : AcceptsAll world deliveries after

-- ---- what is then known

-- the write has a place in what is told, behind all that the world before it told, and its node
-- alone knows it
pub record IsNewWrite (before : World) (t : Told) (writer : ℕ) (key : Key) (value : ValueParts)
    : Type 0 where
  pub place : ℕ
  pub read : Option ℕ
  pub told : slice_get t.history place ≡ Some (Wrote writer key value read)
  pub behind : OfAllTold before (λ u. length u.history ≤ place)
  pub by_writer : known t.history writer key place ≡ true
  pub by_no_other : (n : ℕ) → n ≢ writer → known t.history n key place ≡ false

-- by the new history each node knows under the key what passing it on along the edges leaves, and
-- under each other key what it knew
pub record KnowWhatWasPassedOn (t : Told) (edges : List Exchange) (key : Key) (new : World)
    : Type 0 where
  pub under : OfAllTold new (λ u. (n p : ℕ) → n < length new.nodes → known u.history n key p
      ≡ after_passing_all (λ m q. known t.history m key q) (outwards edges) n p)
  pub elsewhere : OfAllTold new (λ u. (n : ℕ) (other : Key) (p : ℕ) → n < length new.nodes
      → other ≢ key → known u.history n other p ≡ known t.history n other p)

-- each node of the tree knows under the key what its root knew
abbrev pub KnowUnderWhatRootKnew : Told → ℕ → List Exchange → Key → World → Type 0
KnowUnderWhatRootKnew t root edges key new = OfAllTold new (λ u. (n p : ℕ)
    → is_in root edges n ≡ true → known t.history root key p ≡ true
    → known u.history n key p ≡ true)

-- no node of the tree knew more under the key than its root
abbrev pub NoneKnewMore : Told → ℕ → List Exchange → Key → Type 0
NoneKnewMore t root edges key = (n p : ℕ) → is_in root edges n ≡ true
    → known t.history n key p ≡ true → known t.history root key p ≡ true

-- all nodes of the tree hold the same object under the key
abbrev pub HoldTheSame : World → ℕ → List Exchange → Key → Type 0
HoldTheSame w root edges key = (m n : ℕ) → is_in root edges m ≡ true → is_in root edges n ≡ true
    → object_at (table_at w m) key ≡ object_at (table_at w n) key

-- ---- what was sent

-- a GOSSIP of the key
abbrev pub IsGossipOf : Key → Message → Type 0
IsGossipOf key (Gossip round k object) = k ≡ key
IsGossipOf key message = ⊥

-- so many frames were sent, each a GOSSIP of the key
pub record SendsGossip (old new : World) (key : Key) (count : ℕ) : Type 0 where
  pub frames : List Frame
  pub gossip : All (λ f. IsGossipOf key f.message) frames
  pub counted : length frames ≡ count
  pub sent : new.frames ≡ old.frames ++ map spelling frames
