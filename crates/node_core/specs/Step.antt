-- One step of a node: what refuses it, what the node is then, what it replies, and which frames it
-- sends, each a function of what it was and of what it was asked.
use Rattle.std.specs.Prelude.{ℕ, ◌≡◌, ◌+◌, nat_eq, ◌⊎◌, List, [], ◌∷◌, map, length, Option, None, Some, All, if◌then◌else◌}
use Rattle.std.specs.Option.{option_map}
use Rattle.meta_types.specs.First.{first_that_applies}
use Rattle.meta_types.specs.Name.{Key}
use Rattle.meta_types.specs.Value.{ValueParts}
use Rattle.dvvset.specs.Object.{Entry}
use Rattle.dvvset.specs.Clock.{values_of}
use Rattle.meta_frame.specs.declared.message.Frame.{Frame}
use Rattle.meta_frame.specs.declared.message.Message.{Message}
use Rattle.meta_frame.specs.declared.message.Message.TheVariants.{Gossip, XObject}
use Rattle.meta_frame.specs.Frame.{RefusesBytes, spelling}
use Rattle.meta_store.specs.Context.{Reading}
use Rattle.meta_store.specs.Step.{refusal_of_merge, refusal_of_put}
use Rattle.meta_store.specs.Table.{object_at}
use Rattle.subscriptions.specs.Watching.{Watching}
use Rattle.subscriptions.specs.Watches.{at_number, refusal_of_changes, refusal_of_watch}
use Rattle.node_events.specs.Fault.{of_store, of_watch}
use Rattle.node_events.specs.declared.fault.StepFault.{StepFault}
use Rattle.node_events.specs.declared.fault.StepFault.TheVariants.{BadNode, NotAddressed, Frame as OfFrame, Memory}
use Rattle.node_events.specs.declared.event.NodeEvent.{NodeEvent}
use Rattle.node_events.specs.declared.event.NodeEvent.TheVariants.{Take, Read, Write, PutOver, Join, PeerDown, Exchange, Watch, Changes, Hello}
use Rattle.node_events.specs.declared.reply.Reply.{Reply}
use Rattle.node_events.specs.declared.reply.Reply.TheVariants.{Looked, Wrote, Took, TookFresh, TookStale, Done, Watching as IsWatching, Changed}
use Rattle.node_core.specs.declared.state.Stepped.{Stepped}
use Rattle.node_overlay.specs.Outbox.{HasSpelling, count_on, frames_from}
use Rattle.node_core.specs.Node.{NodeParts, present, vector_under, writer}
use Rattle.node_core.specs.Draft.{NodeDraft}
use Rattle.node_core.specs.Rows.{Local, Received, Input, IsInput, is_fresh, row_of_input}

-- ---- what refuses it

abbrev pub refusal_of_peer : ℕ → NodeParts → Option StepFault
refusal_of_peer node s = first_that_applies ((nat_eq node s.node, BadNode) ∷ [])

abbrev pub refusal_of_write : Key → ValueParts → Option Reading → NodeParts → Option StepFault
refusal_of_write key value context s =
    option_map of_store (refusal_of_put s.table (writer s) key value context)

abbrev pub refusal_of_object : Key → List Entry → NodeParts → Option StepFault
refusal_of_object key object s = option_map of_store (refusal_of_merge s.table key object)

abbrev pub refusal_of_message : Message → NodeParts → Option StepFault
refusal_of_message (Gossip round key object) s = refusal_of_object key object s
refusal_of_message (XObject key object) s = refusal_of_object key object s
refusal_of_message message s = None

abbrev pub refusal_of_frame : Frame → NodeParts → Option StepFault
refusal_of_frame frame s =
    if nat_eq frame.to s.node then refusal_of_message frame.message s else Some NotAddressed

abbrev pub refusal_of_event : NodeEvent → NodeParts → Option StepFault
refusal_of_event (Write key value context) s = refusal_of_write key value context s
refusal_of_event (PutOver key value) s = refusal_of_write key value (Some (present key s)) s
refusal_of_event (Join contact word) s = refusal_of_peer contact s
refusal_of_event (PeerDown peer word) s = refusal_of_peer peer s
refusal_of_event (Exchange peer) s = refusal_of_peer peer s
refusal_of_event (Hello peer) s = refusal_of_peer peer s
refusal_of_event (Watch prefix capacity) s =
    option_map of_watch (refusal_of_watch capacity s.watches)
refusal_of_event (Changes number) s =
    option_map of_watch (refusal_of_changes number s.watches)
refusal_of_event event s = None

abbrev pub refusal_of : Input → NodeParts → Option StepFault
refusal_of (Local event) = refusal_of_event event
refusal_of (Received frame word) = refusal_of_frame frame

-- ---- what the node is then

abbrev pub begun : NodeParts → NodeDraft
begun s = record { parts = s; sent = [] }

abbrev pub node_draft_after : Input → NodeParts → NodeDraft
node_draft_after input s = row_of_input input (begun s)

-- the step counts, and so does each frame
abbrev pub with_counts : ℕ → NodeParts → NodeParts
with_counts sent s = record s { steps = count_on s.steps 1; frames = count_on s.frames sent }

abbrev pub node_after : Input → NodeParts → NodeParts
node_after input s = let t = node_draft_after input s in with_counts (length t.sent) t.parts

-- ---- what it replies

abbrev pub reply_of_object : Key → List Entry → NodeParts → Reply
reply_of_object key object s = if is_fresh key object s then TookFresh else TookStale

abbrev pub reply_of_message : Message → NodeParts → Reply
reply_of_message (Gossip round key object) s = reply_of_object key object s
reply_of_message (XObject key object) s = reply_of_object key object s
reply_of_message message s = Took

-- what a watch hands out
abbrev pub reply_of_changes : Option Watching → Reply
reply_of_changes None = Done
reply_of_changes (Some w) = Changed w.missed w.changes

abbrev pub reply_of : Input → NodeParts → Reply
reply_of (Local (Read key)) s = Looked (values_of (object_at s.table key)) (present key s)
reply_of (Local (Write key value context)) s =
    Wrote (vector_under key (node_after (Local (Write key value context)) s))
reply_of (Local (PutOver key value)) s =
    Wrote (vector_under key (node_after (Local (PutOver key value)) s))
reply_of (Local (Watch prefix capacity)) s = IsWatching (length s.watches + 1)
reply_of (Local (Changes number)) s = reply_of_changes (at_number s.watches number)
reply_of (Local event) s = Done
reply_of (Received frame word) s = reply_of_message frame.message s

-- ---- a step

-- it isn't refused; the old node becomes what is left when all is done, with this reply, and what
-- is to be sent goes out as frames, as bytes, numbered over the life from 1, in order; each frame
-- is lawful, so it goes to another node, and has no more bytes than a frame may have
pub record IsStepTo (old : NodeParts) (refusal : Option StepFault) (done : NodeDraft)
    (reply : Reply) (new : NodeParts) (stepped : Stepped) : Type 0 where
  pub accepted : refusal ≡ None
  pub node : new ≡ with_counts (length done.sent) done.parts
  pub replies : stepped.reply ≡ reply
  pub sends : stepped.outbox ≡ map spelling (frames_from old.node old.frames done.sent)
  pub frames : All HasSpelling (frames_from old.node old.frames done.sent)

-- what was asked takes the old node to the new one, and gives this
abbrev pub IsStepOf : NodeParts → Input → NodeParts → Stepped → Type 0
IsStepOf old input =
    IsStepTo old (refusal_of input old) (node_draft_after input old) (reply_of input old)

-- the step of an event: of itself, or of the frame that its bytes spell
pub record IsNodeStep (old : NodeParts) (event : NodeEvent) (new : NodeParts) (stepped : Stepped)
    : Type 0 where
  pub input : Input
  pub is_input : IsInput event input
  pub step : IsStepOf old input new stepped

-- ---- what comes of an event

-- its bytes are no frame, for this first cause
abbrev pub IsNoFrame : NodeEvent → StepFault → Type 0
IsNoFrame (Take bytes word) (OfFrame fault) = RefusesBytes bytes fault
IsNoFrame event fault = ⊥

-- what it asks, or the frame that it brings, is refused with this
pub record IsRefused (old : NodeParts) (event : NodeEvent) (fault : StepFault) : Type 0 where
  pub input : Input
  pub is_input : IsInput event input
  pub first : refusal_of input old ≡ Some fault

-- memory ran out, its bytes are no frame, or it is refused
abbrev pub CanComeOf : NodeParts → NodeEvent → StepFault → Type 0
CanComeOf old event fault = (fault ≡ Memory) ⊎ (IsNoFrame event fault ⊎ IsRefused old event fault)

-- a refused event changes nothing
pub record Rejects (old : NodeParts) (event : NodeEvent) (fault : StepFault) (new : NodeParts)
    : Type 0 where
  pub cause : CanComeOf old event fault
  pub same : new ≡ old
