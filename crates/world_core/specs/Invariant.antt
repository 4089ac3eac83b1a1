-- What a world always keeps to: what its accepted events tell, what its nodes did, and what events
-- name and answers hand out. It is the invariant of the type; no public contract speaks of it.
use Rattle.std.specs.Prelude.{◌≡◌, ℕ, ◌<◌, ◌≤◌, List, length, map, get_or, slice_get, Option, Some, None, All}
use Rattle.meta_types.specs.Actor.{node_of_writer}
use Rattle.meta_types.specs.Name.{Key}
use Rattle.meta_types.specs.Node.{most_nodes}
use Rattle.dvvset.specs.Clock.{join}
use Rattle.meta_frame.specs.declared.message.Frame.{Frame}
use Rattle.meta_store.specs.Context.{Reading}
use Rattle.past_model.specs.declared.happening.Happening.{Happening}
use Rattle.past_model.specs.declared.happening.Happening.TheVariants.{Looked, Sent}
use Rattle.past_model.specs.History.{IsHistory}
use Rattle.past_model.specs.Objects.{seen_object, sent_object}
use Rattle.node_core.specs.Leaving.{carried_object}
use Rattle.restart_images.specs.Keeping.{Keeping}
use Rattle.restart_images.specs.Node.{ImagedNode, keeping}
use Rattle.restart_images.specs.Follows.{FollowsHistory}
use Rattle.world_core.specs.declared.event.Event.{Event}
use Rattle.world_core.specs.declared.event.Event.TheVariants.{Put, Deliver}
use Rattle.world_core.specs.Events.{node_of_event}
use Rattle.world_core.specs.Tells.{Told, Tells, Pairwise}
use Rattle.world_core.specs.World.{HasLived, World}
use Rattle.world_core.specs.Knowledge.{HandsOut}

-- ---- by what is told

-- its node and its key are those of the Looked at the place, and its vector is of what was seen
-- there
pub record IsRead (hs : List Happening) (place : ℕ) (context : Reading) : Type 0 where
  pub looked : slice_get hs place
      ≡ Some (Looked (node_of_writer context.source.actor) context.key)
  pub vector : context.vector ≡ join (seen_object hs place context.key)

-- the frame carries, under the key of the Sent at the place, the object that it sent
pub record IsSending (hs : List Happening) (frame : Frame) (place : ℕ) : Type 0 where
  pub key : Key
  pub sent : slice_get hs place ≡ Some (Sent frame.from key)
  pub carries : carried_object frame.message ≡ Some (key, sent_object hs place key)

-- a frame was told as a Sent if it carries an object, and only then
abbrev pub IsTold : List Happening → Frame → Option ℕ → Type 0
IsTold hs frame None = carried_object frame.message ≡ None
IsTold hs frame (Some place) = IsSending hs frame place

-- this is a history; each node stands where it left the node; each read's context and each frame's
-- object is what was seen and sent there
pub record IsState (ns : List Keeping) (contexts : List Reading) (sent : List Frame) (t : Told)
    : Type 0 where
  pub is_history : IsHistory t.history
  pub nodes : (n : ℕ) (d : Keeping) → n < length ns → FollowsHistory t.history n (get_or ns n d)
  pub reads : Pairwise (IsRead t.history) t.looks contexts
  pub sendings : Pairwise (IsTold t.history) sent t.sendings

-- ---- what accepted events name

-- the number of the read that a write names is at most this one
abbrev pub IsReadWithin : ℕ → Event → Type 0
IsReadWithin count (Put n k v read) = read ≤ count
IsReadWithin count event = Unit {0}

-- the number of the frame that a delivery names is at most this one
abbrev pub IsFrameWithin : ℕ → Event → Type 0
IsFrameWithin count (Deliver frame n word) = frame ≤ count
IsFrameWithin count event = Unit {0}

pub record IsWithin (w : World) (event : Event) : Type 0 where
  pub node : node_of_event event < length w.nodes
  pub read : IsReadWithin (length w.contexts) event
  pub frame : IsFrameWithin (length w.frames) event

-- ---- a world

pub record IsWorld (w : World) : Type 0 where
  pub told : Told
  pub telling : Tells w.accepted w.frames told
  pub state : IsState (map keeping w.nodes) w.contexts telling.frames told
  pub lived : (n : ℕ) (d : ImagedNode) → n < length w.nodes → HasLived w n (get_or w.nodes n d)
  pub within : All (λ a. IsWithin w a.event) w.accepted
  pub handed : All (λ a. HandsOut w a.answer) w.accepted
  pub some : 1 ≤ length w.nodes
  pub few : length w.nodes ≤ most_nodes

-- `IsWorld` as one word, into which proofs do not look by themselves
unfoldable pub IsWholeWorld : World → Type 0
IsWholeWorld w = IsWorld w
