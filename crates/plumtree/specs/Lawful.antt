-- What each call keeps of the broadcast, and what holds of what it gives out.
use Rattle.std.specs.Prelude.{ℕ, ◌≡◌, ◌≢◌, ◌<◌, ◌^◌, Bool, true, false, not, ◌||◌, ◌&&◌, List, [], ◌∷◌, nat_eq, All}
use Rattle.std.specs.List.{IsDistinct}
use Rattle.meta_frame.specs.declared.message.Message.{Message}
use Rattle.meta_frame.specs.declared.message.Message.TheVariants.{IHave, Graft, Prune}
use Rattle.meta_frame.specs.Frame.{IsMessage}
use Rattle.plumtree.specs.declared.entry.CastOut.{CastOut}
use Rattle.plumtree.specs.declared.entry.CastOut.TheVariants.{Gossip, Send}
use Rattle.peer_lists.specs.Lists.{has}
use Rattle.plumtree.specs.Missing.{MissingObject}
use Rattle.plumtree.specs.Rows.{ihave_of}
use Rattle.plumtree.specs.Broadcast.{Broadcast, CastCall, Up, Down, Broadcasts, TakesFresh, TakesStale, TakesPrune, TakesIHave, TakesGraft, Changes, Tick, draft_of, empty, broadcast_of, row}

-- each peer stands once, and in one of the two lists
pub record AreLinks (eager lazy : List ℕ) : Type 0 where
  pub eager_once : IsDistinct nat_eq eager
  pub lazy_once : IsDistinct nat_eq lazy
  pub disjoint : (x : ℕ) → has eager x ≡ true → has lazy x ≡ false

-- each peer of the broadcast stands so
abbrev pub HasLinks : Broadcast → Type 0
HasLinks b = AreLinks b.eager b.lazy

-- the broadcast after a call, and after these calls, one after the other
abbrev pub after_call : Broadcast → CastCall → Broadcast
after_call b call = broadcast_of (row call (draft_of b))

abbrev pub broadcast_after : Broadcast → List CastCall → Broadcast
broadcast_after b [] = b
broadcast_after b (call ∷ calls) = broadcast_after (after_call b call) calls

-- if each peer stands so, each does after every call; and so each does after any calls of a new
-- broadcast
pub record StayLinks : Type 0 where
  pub each_call : (b : Broadcast) (call : CastCall) → HasLinks b → HasLinks (after_call b call)
  pub every_list : (calls : List CastCall) → HasLinks (broadcast_after empty calls)

-- ---- who is a peer

abbrev pub is_peer : ℕ → Broadcast → Bool
is_peer x b = has b.eager x || has b.lazy x

-- whether x is a peer after a call, by whether it was one before
abbrev pub is_peer_after : CastCall → ℕ → Bool → Bool
is_peer_after (Up node) x was = was || nat_eq x node
is_peer_after (Down node) x was = was && not (nat_eq x node)
is_peer_after _ x was = was

-- `up` adds its node to the peers, `down` takes it out, and no other call changes who is a peer: of
-- each broadcast whose peers stand once, and so after every list of calls
abbrev pub PeersComeAndGo : Type 0
PeersComeAndGo =
    (b : Broadcast) (call : CastCall) (x : ℕ) → HasLinks b
    → is_peer x (after_call b call) ≡ is_peer_after call x (is_peer x b)

-- ---- what may be sent

-- one of the messages that the broadcast sends whole, and its fields have a spelling
abbrev pub IsOfBroadcast : Message → Type 0
IsOfBroadcast (IHave round key vector) = IsMessage (IHave round key vector)
IsOfBroadcast (Graft round key vector) = IsMessage (Graft round key vector)
IsOfBroadcast Prune = IsMessage Prune
IsOfBroadcast _ = ⊥

-- to another node
abbrev pub MayBeSent : ℕ → CastOut → Type 0
MayBeSent node (Gossip to round key) = to ≢ node
MayBeSent node (Send to message) = (to ≢ node) × IsOfBroadcast message

-- its key and vector have a spelling, and whoever announced it, in the round of a frame, is another
-- node: so it may be asked for
abbrev pub MayBeAsked : ℕ → MissingObject → Type 0
MayBeAsked node m =
    IsMessage (Graft 0 m.key m.vector)
    × All (λ a. (a.peer ≢ node) × (a.round < 2 ^ 16)) m.announcers

-- the node itself is no peer, and what waits may be sent
pub record NamesOthers (node : ℕ) (b : Broadcast) : Type 0 where
  pub eager : has b.eager node ≡ false
  pub lazy : has b.lazy node ≡ false
  pub queue : All (λ a. MayBeSent node (ihave_of a)) b.queue
  pub missing : All (MayBeAsked node) b.missing

-- a call that names other nodes: its new peer, and its sender if the call may lead to a message to
-- it; and a frame can spell what the call may announce or wait for
abbrev pub MayCome : ℕ → CastCall → Type 0
MayCome node (Up peer) = peer ≢ node
MayCome node (Down peer) = Unit {0}
MayCome node (Broadcasts key vector) = IsMessage (IHave 0 key vector)
MayCome node (TakesFresh from round key vector) =
    (from ≢ node) × IsMessage (IHave round key vector)
MayCome node (TakesStale from) = from ≢ node
MayCome node (TakesPrune from) = Unit {0}
MayCome node (TakesIHave from round key vector stale) =
    (from ≢ node) × IsMessage (IHave round key vector)
MayCome node (TakesGraft from round key held) = from ≢ node
MayCome node (Changes key vector) = Unit {0}
MayCome node Tick = Unit {0}

-- what a call gives out may be sent, and what it leaves names others again
pub record TellsOthers (node : ℕ) (b : Broadcast) (call : CastCall) : Type 0 where
  pub out : All (MayBeSent node) (row call (draft_of b)).out
  pub broadcast : NamesOthers node (after_call b call)

-- a new broadcast names no node; if a broadcast names others, such a call names others too: nothing
-- goes to the node itself, what is sent whole is IHAVE, GRAFT or PRUNE, and it has a spelling
pub record SendsToOthers : Type 0 where
  pub begins : (node : ℕ) → NamesOthers node empty
  pub goes_on :
      (node : ℕ) (b : Broadcast) (call : CastCall)
      → NamesOthers node b → MayCome node call → TellsOthers node b call
