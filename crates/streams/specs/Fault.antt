-- Why a run over a reader and a writer stopped.
use Rattle.std.specs.Prelude.{◌≡◌, ◌⊎◌, ℕ, List, Option, Some, None, codes}
use Rattle.std.specs.declared.io.ErrorKind.{ErrorKind}
use Rattle.std.specs.declared.io.ErrorKind.TheVariants as kinds
use Rattle.streams.specs.declared.fault.StreamFault.{StreamFault}
use Rattle.streams.specs.declared.fault.StreamFault.TheVariants.{Read, InputTooLong, Write, BrokenPipe, Memory}

-- the number of a fault; a writer that failed has none
abbrev pub code_of : StreamFault → Option ℕ
code_of Read = Some 7
code_of InputTooLong = Some 8
code_of Write = None
code_of BrokenPipe = None
code_of Memory = Some 99

-- the name of a fault
abbrev pub fault_name : StreamFault → List ℕ
fault_name Read = codes "Read"
fault_name InputTooLong = codes "InputTooLong"
fault_name Write = codes "Write"
fault_name BrokenPipe = codes "BrokenPipe"
fault_name Memory = codes "Memory"

-- whether a call of a writer has returned an error of this kind
abbrev pub Failed : Type 1
Failed = ErrorKind → Type 0

-- the fault that an error of the writer is
abbrev pub fault_of_kind : ErrorKind → StreamFault
fault_of_kind kinds.BrokenPipe = BrokenPipe
fault_of_kind kinds.OutOfMemory = Memory
fault_of_kind kind = Write

-- the writer has failed in no new way
abbrev pub FailsNoMore : Failed → Failed → Type 0
FailsNoMore old new = (kind : ErrorKind) → new kind → old kind

-- the writer has failed in no new way, except by an error of this kind
abbrev pub FailsOnly : Failed → Failed → ErrorKind → Type 0
FailsOnly old new kind = (other : ErrorKind) → new other → old other ⊎ (other ≡ kind)

-- the writer has returned an error that is this fault, and has failed in no other new way
pub record IsWriterFault (old new : Failed) (fault : StreamFault) : Type 0 where
  pub kind : ErrorKind
  pub answered : new kind
  pub only : FailsOnly old new kind
  pub fault_is : fault ≡ fault_of_kind kind

-- Each fault has its cause: the reader failed, more than the limit was read, or the writer returned
-- an error. `Memory` comes only if nothing else has newly failed: `memory` says this of the
-- reading, and the writer has failed in no new way, or was itself out of memory.
abbrev pub HasCause : (read_failed too_long memory : Type 0) (old new : Failed)
    → StreamFault → Type 0
HasCause read_failed too_long memory old new Read = read_failed
HasCause read_failed too_long memory old new InputTooLong = too_long
HasCause read_failed too_long memory old new Write = IsWriterFault old new Write
HasCause read_failed too_long memory old new BrokenPipe = IsWriterFault old new BrokenPipe
HasCause read_failed too_long memory old new Memory =
    memory × (FailsNoMore old new ⊎ IsWriterFault old new Memory)

-- a fault of writing, if nothing is read: the writer failed, or memory ran out
abbrev pub IsWriteFault : (old new : Failed) → StreamFault → Type 0
IsWriteFault old new fault = HasCause ⊥ ⊥ (Unit {0}) old new fault

-- a fault of reading, if nothing is written: the reader failed, or gave too much, or memory ran out
abbrev pub IsReadFault : (read_failed too_long memory : Type 0) → StreamFault → Type 0
IsReadFault read_failed too_long memory fault =
    HasCause read_failed too_long memory (λ kind. ⊥) (λ kind. ⊥) fault
