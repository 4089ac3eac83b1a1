-- The numbers and names of refusals, and which refusals of a part they are.
use Rattle.std.specs.Prelude.{ℕ, List, codes}
use Rattle.node_events.specs.declared.fault.StepFault.{StepFault}
use Rattle.node_events.specs.declared.fault.StepFault.TheVariants as OfStep
use Rattle.node_events.specs.Fault as events
use Rattle.node_file.specs.declared.fault.FileFault.{FileFault}
use Rattle.node_file.specs.declared.fault.FileFault.TheVariants as OfFile
use Rattle.node_file.specs.declared.batch_fault.BatchFault.{BatchFault}
use Rattle.node_file.specs.declared.batch_fault.BatchFault.TheVariants as OfBatch
use Rattle.node_call.specs.declared.batch.BatchRefusal.{BatchRefusal}
use Rattle.node_call.specs.declared.batch.BatchRefusal.TheVariants.{TooMany, Write, Node}
use Rattle.node_call.specs.declared.fault.LockFault.{LockFault}
use Rattle.node_call.specs.declared.fault.LockFault.TheVariants.{Step, Device, FileFull, Stopped, JournalFull, NoSeat, SeatsMissing, BadLimit, Memory}

abbrev pub code_of : LockFault → ℕ
code_of (Step fault) = events.code_of fault
code_of Device = 30
code_of FileFull = 33
code_of Stopped = 34
code_of JournalFull = 51
code_of NoSeat = 52
code_of SeatsMissing = 54
code_of BadLimit = 55
code_of Memory = 99

abbrev pub fault_name : LockFault → List ℕ
fault_name (Step fault) = events.fault_name fault
fault_name Device = codes "Device"
fault_name FileFull = codes "FileFull"
fault_name Stopped = codes "Stopped"
fault_name JournalFull = codes "JournalFull"
fault_name NoSeat = codes "NoSeat"
fault_name SeatsMissing = codes "SeatsMissing"
fault_name BadLimit = codes "BadLimit"
fault_name Memory = codes "Memory"

-- the refusal of a step
abbrev pub of_step : StepFault → LockFault
of_step OfStep.Memory = Memory
of_step fault = Step fault

-- the refusal of an append: the file is full, its device failed, or memory ran out; there is no
-- other
abbrev pub of_append : FileFault → LockFault
of_append OfFile.FileFull = FileFull
of_append OfFile.Device = Device
of_append fault = Memory

-- the refusal of an append of many: one object has no room, or the refusal is of the file
abbrev pub of_batch : BatchFault → BatchRefusal
of_batch OfBatch.TooMany = TooMany
of_batch (OfBatch.Object place fault) = Write place (of_append fault)
of_batch (OfBatch.File fault) = Node (of_append fault)
