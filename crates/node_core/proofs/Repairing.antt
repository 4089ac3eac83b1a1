-- The sibling that is chosen is the one that is read, and writing it over all is the repair.
use Rattle.std.proofs.Common.{◌≡◌, ◌∙◌, ℕ, List, Some, Result, Ok, Err, IfErr, refl, sym, ap, subst}
use Rattle.std.specs.Option.{option_map}
use Rattle.meta_types.specs.Name.{Key}
use Rattle.meta_types.specs.Value.{ValueParts}
use Rattle.dvvset.specs.Clock.{values_of}
use Rattle.meta_store.specs.Table.{object_at}
use Rattle.node_events.specs.declared.event.NodeEvent.TheVariants.{PutOver}
use Rattle.node_events.specs.declared.fault.StepFault.{StepFault}
use Rattle.std.specs.Result.{IsErrAnd}
use Rattle.node_core.specs.declared.attempt.Attempt.{Attempt}
use Rattle.node_core.specs.declared.state.Stepped.{Stepped}
use Rattle.node_core.specs.Attempt.{committed, stepped_by}
use Rattle.node_core.specs.Node.{NodeParts}
use Rattle.node_core.specs.Rows.{Local}
use Rattle.node_core.specs.Handling.{Attempts}
use Rattle.node_core.specs.Repair.{CanComeOfRepair, IsRepair, chosen, repair_event}
use Rattle.node_core.proofs.Outcomes.{cause_of}

-- the siblings that were read are those of the key, and this is the chosen one
is_event : (choice : List ValueParts → ℕ) (key : Key) (s : NodeParts) (siblings : List ValueParts)
    (v : ValueParts) → siblings ≡ values_of (object_at s.table key)
    → chosen choice siblings ≡ Some v → Some (PutOver key v) ≡ repair_event choice key s
is_event choice key s siblings v are is =
    ap (option_map (PutOver key)) (sym is ∙ ap (chosen choice) are)

pub repaired : (choice : List ValueParts → ℕ) (key : Key) (old new : NodeParts)
    (siblings : List ValueParts) (v : ValueParts) (a : Attempt)
    → siblings ≡ values_of (object_at old.table key) → chosen choice siblings ≡ Some v
    → Attempts old (Local (PutOver key v)) (Ok a) new
    → IsRepair (repair_event choice key old) old (committed a new) (stepped_by a)
repaired choice key old new siblings v a are is attempts =
    subst (λ event. IsRepair event old (committed a new) (stepped_by a)) (is_event choice key old siblings v are is)
    (record { input = Local (PutOver key v); is_input = refl; step = attempts.step })

pub not_repaired : (choice : List ValueParts → ℕ) (key : Key) (old new : NodeParts)
    (siblings : List ValueParts) (v : ValueParts) (fault : StepFault) (r : Result Stepped StepFault)
    → siblings ≡ values_of (object_at old.table key) → chosen choice siblings ≡ Some v
    → Attempts old (Local (PutOver key v)) (Err fault) new → IsErrAnd r (λ gave. gave ≡ fault)
    → IfErr r (CanComeOfRepair (repair_event choice key old) old)
not_repaired choice key old new siblings v fault (Ok s) are is attempts gives = absurd gives
not_repaired choice key old new siblings v fault (Err gave) are is attempts gives =
    subst (CanComeOfRepair (repair_event choice key old) old) (sym gives)
    (subst (λ event. CanComeOfRepair event old fault) (is_event choice key old siblings v are is)
    (cause_of old fault (PutOver key v) refl attempts.0))
