-- A host's file and its node over time: what happens to them, what is left if the host's calls
-- break off, and what stays. The rule is our own.
use Rattle.std.specs.Prelude.{◌≡◌, ◌≢◌, ◌⊎◌, ℕ, List, [], ◌∷◌, length, Option, Some, None, Ok, true, false, IfSome}
use Rattle.std.specs.FinMap.{find}
use Rattle.meta_types.specs.Name.{Key}
use Rattle.meta_types.specs.Order.{key_cmp}
use Rattle.dvvset.specs.Object.{Entry, IsVector}
use Rattle.dvvset.specs.Clock.{descends, join}
use Rattle.meta_store.specs.Table.{IsTable, Table, object_at}
use Rattle.node_events.specs.declared.event.NodeEvent.{NodeEvent}
use Rattle.node_events.specs.declared.event.NodeEvent.TheVariants.{Keep}
use Rattle.node_core.specs.Growing.{context_of_write}
use Rattle.node_core.specs.Handling.{key_of_write}
use Rattle.devices.specs.Calls.{CrashLeftSince, DeviceCall, content_after, cut_to, failed_to_cut, failed_to_write, wrote}
use Rattle.node_file.specs.declared.fault.FileFault.TheVariants.{FileFull, IncarnationSpent}
use Rattle.node_file.specs.File.{file_state}
use Rattle.node_file.specs.Refusal.{refusal_of_serve}
use Rattle.node_hosted.specs.declared.fault.HostFault.{HostFault}
use Rattle.node_hosted.specs.Hosting.{Acts, BeginsBatch, EndsBatch, HostedParts, KeepsAllButContexts, RefusesActing, Serves, Stores, after_sending, handed_reply, next_frame}
use Rattle.node_hosted.specs.HostFile.{HasAllOf, IsFileOf, host_calls}

-- ---- what is left if the host's calls break off

-- the calls as they are noted if the first of these, the newest, failed; a sync that failed isn't
-- noted
abbrev pub as_failed : DeviceCall → List DeviceCall → List DeviceCall
as_failed (wrote at bytes) calls = failed_to_write at (length bytes) ∷ calls
as_failed (cut_to n) calls = failed_to_cut n ∷ calls
as_failed call calls = calls

-- one of the calls failed, and none was made after it
abbrev pub FailsMidway : List DeviceCall → List DeviceCall → Type 0
FailsMidway [] made = ⊥
FailsMidway (call ∷ calls) made = (made ≡ as_failed call calls) ⊎ FailsMidway calls made

-- the machine stopped at any moment of the host's calls, or before or after them; or one of them
-- failed, and the machine stopped at any moment, before that or later. The first call may have
-- failed before, any number of times, and was made again.
pub record IsLeft (file : List ℕ) (n : HostedParts) (c : List ℕ) : Type 0 where
  pub failures : ℕ
  pub made : List DeviceCall
  pub by_host : (made ≡ host_calls failures n) ⊎ FailsMidway (host_calls failures n) made
  pub left : CrashLeftSince file made 0 c

-- the next life can begin, unless its record is one too many or its number is
abbrev pub CanBeServed : ℕ → List ℕ → Type 0
CanBeServed node bytes = (refusal_of_serve (Some node) bytes ≡ None)
    ⊎ ((refusal_of_serve (Some node) bytes ≡ Some FileFull)
    ⊎ (refusal_of_serve (Some node) bytes ≡ Some IncarnationSpent))

-- ---- what happens

-- a host's file, as his last sync left it, and his node
pub record Moment : Type 0 where
  pub file : List ℕ
  pub node : HostedParts

-- what the types of an event and of a node say: what the event has read is a vector, and what the
-- node holds is a table
pub record IsTyped (event : NodeEvent) (n : HostedParts) : Type 0 where
  pub read : IfSome (context_of_write event) (λ context. IsVector context.vector)
  pub held : IsTable n.state.table

-- One thing that happens in a life of the node: a step, a step that is refused, a frame is sent,
-- contexts are kept or forgotten, a batch begins, it ends, the host stored the records, however
-- often the first call failed before, or says that he failed to.
pub data Happens (old new : Moment) : Type 0 where
  Stepped : (event : NodeEvent) → IsTyped event new.node → Acts old.node event new.node
      → new.file ≡ old.file → Happens old new
  Refused : (event : NodeEvent) (fault : HostFault) → IsTyped event new.node
      → RefusesActing old.node event new.node fault → new.file ≡ old.file → Happens old new
  Sent : new.node ≡ after_sending old.node → new.file ≡ old.file → Happens old new
  Contexts : KeepsAllButContexts old.node new.node → new.file ≡ old.file → Happens old new
  BatchBegan : BeginsBatch old.node (Ok tt) new.node → new.file ≡ old.file → Happens old new
  BatchEnded : EndsBatch old.node (Ok tt) new.node → new.file ≡ old.file → Happens old new
  Stored : (failures : ℕ) → Stores true old.node (Ok tt) new.node
      → new.file ≡ content_after old.file (host_calls failures old.node) → Happens old new
  GaveUp : Stores false old.node (Ok tt) new.node → new.file ≡ old.file → Happens old new

-- the host stops, and his node is served again from a file that says what is left of his file: that
-- itself, the same bytes in a new file, or a clean copy
pub record Restarts (old new : Moment) : Type 0 where
  pub kept : List ℕ
  pub left : IsLeft old.file old.node kept
  pub says : file_state new.file ≡ file_state kept
  pub asked : Option ℕ
  pub serves : Serves asked new.file new.node
  pub held : IsTable new.node.state.table

abbrev pub HappensOrRestarts : Moment → Moment → Type 0
HappensOrRestarts old new = Happens old new ⊎ Restarts old new

-- each moment follows the one before
abbrev pub Follow : (Moment → Moment → Type 0) → Moment → List Moment → Moment → Type 0
Follow step first [] last = last ≡ first
Follow step first (next ∷ later) last = step first next × Follow step next later last

-- a later moment of the same life
abbrev pub LaterInLife : Moment → Moment → Type 0
LaterInLife first last = (between : List Moment) × Follow Happens first between last

-- a later moment of this life or of a later one
abbrev pub Later : Moment → Moment → Type 0
Later first last = (between : List Moment) × Follow HappensOrRestarts first between last

-- ---- what stays

-- the file is still the node's, and has all that it had
pub record GoesOn (first last : Moment) : Type 0 where
  pub its_file : IsFileOf last.file last.node
  pub has_all : HasAllOf (file_state first.file) (file_state last.file)

-- the event writes the key, or keeps the object that is held under it
abbrev pub StoresKey : Key → NodeEvent → Table → Type 0
StoresKey key event held = (key_of_write event ≡ Some key)
    ⊎ ((event ≡ Keep key) × (find key_cmp key held ≢ None))

-- a node with this file made a step that wrote or kept the key, which left the object there, and
-- later in the same life a reply or a frame was handed out: its own, that of the batch, or a later
-- one
pub record IsAcknowledged (key : Key) (object : List Entry) (now : Moment) : Type 0 where
  pub old : Moment
  pub its_file : IsFileOf old.file old.node
  pub event : NodeEvent
  pub wrote : HostedParts
  pub its_key : StoresKey key event wrote.state.table
  pub typed : IsTyped event wrote
  pub acts : Acts old.node event wrote
  pub its_object : object ≡ object_at wrote.state.table key
  pub since : LaterInLife (record { file = old.file; node = wrote }) now
  pub handed : (handed_reply now.node ≢ None) ⊎ (next_frame now.node ≢ None)

-- file and node count, under the key, all events that the object counts
pub record Knows (key : Key) (object : List Entry) (m : Moment) : Type 0 where
  pub file : descends (join (object_at (file_state m.file).contents.table key)) (join object)
      ≡ true
  pub node : descends (join (object_at m.node.state.table key)) (join object) ≡ true
