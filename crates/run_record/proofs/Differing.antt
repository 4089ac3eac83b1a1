-- If the next entry of a node isn't what its journal tells, the journal is unequal.
use Rattle.std.proofs.Common.{◌≡◌, ◌<◌, ℕ, List, length, get_or, Some, Ok, Err, sym, subst, ap, ◌∙◌, inl, inr, arith, Vec, Global}
use Rattle.node_core.specs.Run.{NoEventHasTwoOutcomes, RunsGoOn}
use Rattle.node_events.specs.declared.fault.StepFault.{StepFault}
use Rattle.node_journal.specs.Closed.{ClosedNode}
use Rattle.node_journal.specs.declared.entry.Entry.{Entry}
use Rattle.run_record.specs.Journals.{entry_at}
use Rattle.run_record.specs.Order.{CanComeNext}
use Rattle.run_record.specs.declared.order.Turn.{Turn}
use Rattle.world_core.specs.declared.answer.Answer.{Answer}
use Rattle.world_core.specs.declared.event.Event.{Event}
use Rattle.world_core.specs.declared.fault.WorldFault.{WorldFault}
use Rattle.world_core.specs.declared.fault.WorldFault.TheVariants.{Memory}
use Rattle.world_core.specs.Fault.{of_step}
use Rattle.world_core.specs.Outcome.{Passes}
use Rattle.world_core.specs.Refusal.{node_at}
use Rattle.world_core.specs.World.{HasLived, World}
use Rattle.run_record.specs.declared.fault.RecordFault.{RecordFault}
use Rattle.run_record.specs.declared.replay.Mark.{Mark}
use Rattle.run_record.specs.Record.{IsUnequal}
use Rattle.run_record.specs.Replay.{AsTold, IsEventOf, IsRefusal, IsReplayOf, RefusesReplay}
use Rattle.run_record.proofs.Deeds.{by_step, gave_otherwise, was_refused}
use Rattle.run_record.proofs.Making.{told_of}
use Rattle.run_record.proofs.Replaying.{declines_of, made_of}

-- the node replied or sent something else
pub unequal_gave : (closed : List ClosedNode) (old new : World) (next : List ℕ)
    (rows : List (Vec Mark Global)) (turn : Turn) (e : Entry) (event : Event) (answer : Answer)
    → RunsGoOn → NoEventHasTwoOutcomes → IsReplayOf closed old next rows
    → CanComeNext closed next turn → entry_at closed turn.node (get_or next turn.node 0) ≡ Some e
    → IsEventOf old turn.node e.event event → HasLived old turn.node (node_at old turn.node)
    → Passes old event (Ok answer) new → (AsTold new answer e → ⊥) → IsUnequal closed turn.node
unequal_gave closed old new next rows turn e event answer goes once replay ready there is lived
    passes untold =
    let n = turn.node in
    let in_closed : n < length closed = omega (arith, ready.node, replay.places.number) in
    let made = made_of old new n e.event event answer is passes in
    record {
      node = in_closed;
      otherwise = gave_otherwise closed old n (get_or next n 0) e made.state made.given goes once
          there lived (replay.holds n in_closed) made.makes
          (λ same. untold (told_of old new n e answer made same));
    }

-- the node refuses it
pub unequal_refused : (closed : List ClosedNode) (old new : World) (next : List ℕ)
    (rows : List (Vec Mark Global)) (turn : Turn) (e : Entry) (event : Event) (fault : WorldFault)
    → RunsGoOn → NoEventHasTwoOutcomes → IsReplayOf closed old next rows
    → CanComeNext closed next turn → entry_at closed turn.node (get_or next turn.node 0) ≡ Some e
    → IsEventOf old turn.node e.event event → HasLived old turn.node (node_at old turn.node)
    → Passes old event (Err fault) new → (fault ≡ Memory → ⊥) → IsUnequal closed turn.node
unequal_refused closed old new next rows turn e event fault goes once replay ready there is lived
    passes other =
    let n = turn.node in
    let in_closed : n < length closed = omega (arith, ready.node, replay.places.number) in
    let d = declines_of old new event fault passes in
    elim d.cause [
      | inl memory ↦ absurd (other memory)
      | inr refuses ↦
          let step = by_step old n e.event event fault is refuses in
          record {
            node = in_closed;
            otherwise = was_refused closed old n (get_or next n 0) e step.by_step goes once there
                lived (replay.holds n in_closed) (inr step.cause)
                (λ memory. other (step.is ∙ ap (λ (f : StepFault). of_step f) memory));
          }
    ]

pub refused_so : (closed : List ClosedNode) (fault : WorldFault) (n : ℕ) (result : RecordFault)
    → IsRefusal fault n result → ((fault ≡ Memory → ⊥) → IsUnequal closed n)
    → RefusesReplay closed result
refused_so closed Memory n result is unequal =
    subst (λ (r : RecordFault). RefusesReplay closed r) (sym is) tt
refused_so closed _ n result is unequal =
    subst (λ (r : RecordFault). RefusesReplay closed r) (sym is) (unequal (λ h. cc))
