-- What comes of bytes that spell a frame.
use Rattle.std.proofs.Common.{◌≡◌, ◌⊎◌, ℕ, List, Option, Some, None, option_map, Result, Ok, Err, IfOk, IfErr, refl, sym, ap, subst, ◌∙◌, inl, inr}
use Rattle.meta_types.specs.Name.{Key}
use Rattle.dvvset.specs.Object.{Entry}
use Rattle.meta_frame.specs.declared.message.Frame.{Frame}
use Rattle.meta_frame.specs.Frame.{Spells}
use Rattle.node_events.specs.declared.event.NodeEvent.{NodeEvent}
use Rattle.node_events.specs.declared.event.NodeEvent.TheVariants.{Write, PutOver, Take}
use Rattle.node_events.specs.declared.fault.StepFault.{StepFault}
use Rattle.node_events.specs.declared.fault.StepFault.TheVariants as OfStep
use Rattle.node_events.specs.declared.reply.Reply.{Reply}
use Rattle.node_events.specs.declared.reply.Reply.TheVariants.{TookFresh}
use Rattle.meta_frame.proofs.Frames.{one_frame}
use Rattle.node_core.specs.declared.attempt.Attempt.{Attempt}
use Rattle.node_core.specs.Attempt.{IsAttempt, changed_key}
use Rattle.node_core.specs.Node.{NodeParts}
use Rattle.node_core.specs.Growing.{TellsKeyChanged}
use Rattle.node_core.specs.Leaving.{carried_object}
use Rattle.node_core.specs.Rows.{Input, IsInput, Local, Received}
use Rattle.node_core.specs.Step.{CanComeOf, Rejects, refusal_of}
use Rattle.node_core.specs.Handling.{Attempts, carried_key, key_if_fresh, key_of_write}

refused_frame : (old : NodeParts) (bytes : List ℕ) (word : ℕ) (frame : Frame) (fault : StepFault) → Spells frame bytes
    → (fault ≡ OfStep.Memory) ⊎ (refusal_of (Received frame word) old ≡ Some fault)
    → CanComeOf old (Take bytes word) fault
refused_frame old bytes word frame fault spells (inl ended) = inl ended
refused_frame old bytes word frame fault spells (inr first) =
    inr (inr (record { input = Received frame word; is_input = (spells, refl); first = first }))

-- ---- the key whose object changes

-- bytes spell one frame, so they carry an object under one key at most
key_of : (bytes : List ℕ) (word : ℕ) (frame : Frame) → Spells frame bytes → (came : Option (Key × List Entry))
    → carried_object frame.message ≡ came → TellsKeyChanged (Take bytes word) TookFresh (option_map (λ it. it.0) came)
key_of bytes word frame spells None is = λ key carries.
    let one : carries.frame ≡ frame = one_frame carries.frame frame bytes carries.spelled spells in
    let clash : Some (key, carries.object) ≡ None =
    sym carries.carried ∙ (ap (λ f. carried_object f.message) one ∙ is) in
    absurd (cc)
key_of bytes word frame spells (Some came) is = record {
  frame = frame;
  spelled = spells;
  object = came.1;
  carried = is;
}

changed_by : (bytes : List ℕ) (word : ℕ) (frame : Frame) (reply : Reply) → Spells frame bytes
    → TellsKeyChanged (Take bytes word) reply (key_if_fresh reply (carried_key frame.message))
changed_by bytes word frame TookFresh spells =
    key_of bytes word frame spells (carried_object frame.message) refl
changed_by bytes word frame _ spells = λ key changed. changed

-- ---- an attempt of what was asked is one of its event

is_attempt : (old new : NodeParts) (event : NodeEvent) (input : Input) (a : Attempt) → IsInput event input
    → TellsKeyChanged event a.reply (changed_key a) → Attempts old input (Ok a) new → IsAttempt old event new a
is_attempt old new event input a is tells attempts = record {
  step = record { input = input; is_input = is; step = attempts.step };
  back = attempts.undo.back;
  key = tells;
  table = attempts.undo.table;
  can_end = attempts.undo.can_end;
}

pub taken : (old new : NodeParts) (r : Result Attempt StepFault) (bytes : List ℕ) (word : ℕ) (frame : Frame) → Spells frame bytes
    → Attempts old (Received frame word) r new → IfOk r (IsAttempt old (Take bytes word) new)
taken old new (Ok a) bytes word frame spells is =
    is_attempt old new (Take bytes word) (Received frame word) a (spells, refl)
    (subst (TellsKeyChanged (Take bytes word) a.reply) (ap (λ reply. key_if_fresh reply (carried_key frame.message)) is.step.replies
    ∙ sym is.undo.key) (changed_by bytes word frame a.reply spells)) is
taken old new (Err fault) bytes word frame spells fails = tt

pub not_taken : (old new : NodeParts) (r : Result Attempt StepFault) (bytes : List ℕ) (word : ℕ) (frame : Frame) → Spells frame bytes
    → Attempts old (Received frame word) r new → IfErr r (λ fault. Rejects old (Take bytes word) fault new)
not_taken old new (Ok a) bytes word frame spells is = tt
not_taken old new (Err fault) bytes word frame spells fails =
    record { cause = refused_frame old bytes word frame fault spells fails.0; same = fails.1 }

-- an event that brings no frame changes what is held under the key of a write
pub own_key : (event : NodeEvent) (reply : Reply) (key : Option Key) → IsInput event (Local event)
    → key ≡ key_of_write event → TellsKeyChanged event reply key
own_key (Write written value context) reply key own is =
    subst (TellsKeyChanged (Write written value context) reply) (sym is) refl
own_key (PutOver written value) reply key own is =
    subst (TellsKeyChanged (PutOver written value) reply) (sym is) refl
own_key (Take bytes word) reply key own is = absurd own
own_key event reply key own is = subst (TellsKeyChanged event reply) (sym is) (λ key changed. changed)

-- an attempt of an event that brings no frame
pub attempted : (old new : NodeParts) (r : Result Attempt StepFault) (event own : NodeEvent) → event ≡ own
    → IsInput own (Local own) → Attempts old (Local own) r new → IfOk r (IsAttempt old event new)
attempted old new (Ok a) event own same is attempts =
    subst (λ e. IsAttempt old e new a) (sym same)
    (is_attempt old new own (Local own) a is (own_key own a.reply (changed_key a) is attempts.undo.key) attempts)
attempted old new (Err fault) event own same is fails = tt
