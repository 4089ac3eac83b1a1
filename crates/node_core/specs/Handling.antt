-- What a private function that is handed an event, a message or a write makes of it: an attempt of
-- the step, or a failure that changes nothing.
use Rattle.std.specs.Prelude.{ℕ, ◌≡◌, ◌⊎◌, Option, Some, None, option_map, Result, Ok, Err}
use Rattle.meta_types.specs.Name.{Key}
use Rattle.meta_types.specs.Value.{ValueParts}
use Rattle.meta_frame.specs.declared.message.Message.{Message}
use Rattle.meta_frame.specs.declared.message.Message.TheVariants.{XRoot, XPrefixes, XInner, XLeaves, XBucket, XWant}
use Rattle.meta_store.specs.Context.{Reading}
use Rattle.node_events.specs.declared.event.NodeEvent.{NodeEvent}
use Rattle.node_events.specs.declared.event.NodeEvent.TheVariants.{Write, PutOver}
use Rattle.node_events.specs.declared.fault.StepFault.{StepFault}
use Rattle.node_events.specs.declared.fault.StepFault.TheVariants.{Memory}
use Rattle.node_events.specs.declared.outbox.Outbox.{Outbox}
use Rattle.node_events.specs.declared.reply.Reply.{Reply}
use Rattle.node_events.specs.declared.reply.Reply.TheVariants.{Wrote, TookFresh}
use Rattle.node_overlay.specs.Outbox.{AreFramesOf}
use Rattle.node_overlay.specs.declared.pending.Pending.{Pending}
use Rattle.node_core.specs.declared.attempt.Attempt.{Attempt}
use Rattle.node_core.specs.Attempt.{CanEndOverlay, Undoes, committed, overlay_ended, overlay_taken_back, stepped_by}
use Rattle.node_core.specs.Node.{NodeParts, vector_under, with_overlay}
use Rattle.node_core.specs.Draft.{NodeDraft}
use Rattle.node_core.specs.Leaving.{carried_object}
use Rattle.node_core.specs.Rows.{Input, Local, Received, row_of_message, write}
use Rattle.node_core.specs.Step.{IsStepTo, begun, node_draft_after, refusal_of, refusal_of_message, refusal_of_write, reply_of, reply_of_message}

-- ---- the key whose object changes

-- the key of a write
abbrev pub key_of_write : NodeEvent → Option Key
key_of_write (Write key value context) = Some key
key_of_write (PutOver key value) = Some key
key_of_write event = None

-- the key of the object that a message carries
abbrev pub carried_key : Message → Option Key
carried_key message = option_map (λ came. came.0) (carried_object message)

-- a key that came, if the reply is that it came fresh
abbrev pub key_if_fresh : Reply → Option Key → Option Key
key_if_fresh TookFresh key = key
key_if_fresh reply key = None

-- the key under which what was asked changes what is held, if this is the reply
abbrev pub key_changed : Input → Reply → Option Key
key_changed (Local event) reply = key_of_write event
key_changed (Received frame word) reply = key_if_fresh reply (carried_key frame.message)

-- ---- an attempt

-- committed, the step is made to what is left when this is done, with this reply; undone, the node
-- is the old one; and this is the key of the object that changed
pub record IsAttemptTo (old : NodeParts) (refusal : Option StepFault) (done : NodeDraft)
    (reply : Reply) (changed : Option Key) (new : NodeParts) (a : Attempt) : Type 0 where
  pub step : IsStepTo old refusal done reply (committed a new) (stepped_by a)
  pub undo : Undoes old new changed a.end

-- it attempted that; or it failed, with `Memory` or with the refusal that there is, and changed
-- nothing
abbrev pub AttemptsTo : NodeParts → Option StepFault → NodeDraft → Reply → Option Key
    → Result Attempt StepFault → NodeParts → Type 0
AttemptsTo old refusal done reply changed (Ok a) new =
    IsAttemptTo old refusal done reply changed new a
AttemptsTo old refusal done reply changed (Err fault) new =
    ((fault ≡ Memory) ⊎ (refusal ≡ Some fault)) × (new ≡ old)

-- it attempted what was asked
abbrev pub Attempts : NodeParts → Input → Result Attempt StepFault → NodeParts → Type 0
Attempts old input =
    let reply = reply_of input old in
    AttemptsTo old (refusal_of input old) (node_draft_after input old) reply
    (key_changed input reply)

-- the same of a message that came from another node, with its word
abbrev pub AttemptsMessage : NodeParts → ℕ → ℕ → Message → Result Attempt StepFault → NodeParts
    → Type 0
AttemptsMessage old from word message =
    let reply = reply_of_message message old in
    AttemptsTo old (refusal_of_message message old) (row_of_message from word message (begun old))
    reply (key_if_fresh reply (carried_key message))

-- the same of a write, whatever it has read
abbrev pub AttemptsWrite : NodeParts → Key → ValueParts → Option Reading
    → Result Attempt StepFault → NodeParts → Type 0
AttemptsWrite old key value context =
    let done = write key value context (begun old) in
    AttemptsTo old (refusal_of_write key value context old) done
    (Wrote (vector_under key done.parts)) (Some key)

-- what the overlay was asked, if it was asked something, is foreseen: ended, the node is what is
-- left when this is done, and what was sent goes out as these frames; taken back, it is as it was
pub record IsForeseen (s : NodeParts) (done : NodeDraft) (overlay : Option Pending)
    (outbox : Outbox) : Type 0 where
  pub ends : with_overlay (overlay_ended overlay s.overlay) s ≡ done.parts
  pub back : overlay_taken_back overlay s.overlay ≡ s.overlay
  pub views : (overlay_ended overlay s.overlay).views.node ≡ s.node
  pub can_end : CanEndOverlay overlay s.overlay
  pub frames : AreFramesOf s.node s.frames done.sent outbox

-- a message of an exchange that may be answered
abbrev pub IsQuestion : Message → Type 0
IsQuestion (XRoot root) = Unit {0}
IsQuestion (XPrefixes prefixes) = Unit {0}
IsQuestion (XInner prefix digests) = Unit {0}
IsQuestion (XLeaves prefix inner digests) = Unit {0}
IsQuestion (XBucket prefix leaf keys) = Unit {0}
IsQuestion (XWant key) = Unit {0}
IsQuestion _ = ⊥
