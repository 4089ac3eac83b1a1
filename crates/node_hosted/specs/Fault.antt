-- The numbers and names of refusals, and which refusals of a part they are.
use Rattle.std.specs.Prelude.{ℕ, List, codes}
use Rattle.meta_types.specs.declared.fault.TypeFault.{TypeFault}
use Rattle.meta_types.specs.declared.fault.TypeFault.TheVariants as OfType
use Rattle.meta_types.specs.Fault as types
use Rattle.node_events.specs.declared.fault.StepFault.{StepFault}
use Rattle.node_events.specs.declared.fault.StepFault.TheVariants as OfStep
use Rattle.node_events.specs.Fault as events
use Rattle.node_hosted.specs.declared.fault.HostFault.{HostFault}
use Rattle.node_hosted.specs.declared.fault.HostFault.TheVariants.{Argument, Step, FileFull, Stopped, Pending, Nothing, NoSuchRead, Memory}

abbrev pub code_of : HostFault → ℕ
code_of (Argument fault) = types.code_of fault
code_of (Step fault) = events.code_of fault
code_of FileFull = 33
code_of Stopped = 34
code_of Pending = 37
code_of Nothing = 38
code_of NoSuchRead = 43
code_of Memory = 99

abbrev pub fault_name : HostFault → List ℕ
fault_name (Argument fault) = types.fault_name fault
fault_name (Step fault) = events.fault_name fault
fault_name FileFull = codes "FileFull"
fault_name Stopped = codes "Stopped"
fault_name Pending = codes "Pending"
fault_name Nothing = codes "Nothing"
fault_name NoSuchRead = codes "NoSuchRead"
fault_name Memory = codes "Memory"

-- the refusal of a step
abbrev pub of_refused_step : StepFault → HostFault
of_refused_step OfStep.Memory = Memory
of_refused_step fault = Step fault

-- the refusal of a name, a value or the number of a node
abbrev pub of_type : TypeFault → HostFault
of_type OfType.Memory = Memory
of_type fault = Argument fault
