-- What a writer has failed by, over several calls.
use Rattle.std.proofs.Common.{inl, inr}
use Rattle.std.specs.declared.io.ErrorKind.{ErrorKind}
use Rattle.streams.specs.declared.fault.StreamFault.{StreamFault}
use Rattle.streams.specs.declared.fault.StreamFault.TheVariants.{Read, InputTooLong, Write, BrokenPipe, Memory}
use Rattle.streams.specs.Fault.{Failed, FailsNoMore, FailsOnly, IsWriterFault, IsWriteFault}

pub FailsNoMore-self : (failed : Failed) → FailsNoMore failed failed
FailsNoMore-self failed kind has = has

pub FailsNoMore-then : (old now new : Failed) → FailsNoMore old now → FailsNoMore now new → FailsNoMore old new
FailsNoMore-then old now new before after kind has = before kind (after kind has)

pub FailsOnly-then : (old now new : Failed) (kind : ErrorKind) → FailsNoMore old now → FailsOnly now new kind → FailsOnly old new kind
FailsOnly-then old now new kind before only other has = elim (only other has) [
  | inl had ↦ inl (before other had)
  | inr same ↦ inr same
]

pub writer_fault_then : (old now new : Failed) (fault : StreamFault) → FailsNoMore old now → IsWriterFault now new fault → IsWriterFault old new fault
writer_fault_then old now new fault before cause = record {
  kind = cause.kind;
  answered = cause.answered;
  only = FailsOnly-then old now new cause.kind before cause.only;
  fault_is = cause.fault_is;
}

pub write_fault_then : (old now new : Failed) (fault : StreamFault) → FailsNoMore old now → IsWriteFault now new fault → IsWriteFault old new fault
write_fault_then old now new Read before cause = cause
write_fault_then old now new InputTooLong before cause = cause
write_fault_then old now new Write before cause = writer_fault_then old now new Write before cause
write_fault_then old now new BrokenPipe before cause = writer_fault_then old now new BrokenPipe before cause
write_fault_then old now new Memory before cause = elim cause.1 [
  | inl kept ↦ (tt, inl (FailsNoMore-then old now new before kept))
  | inr writer ↦ (tt, inr (writer_fault_then old now new Memory before writer))
]
