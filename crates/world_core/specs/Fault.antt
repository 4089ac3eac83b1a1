-- The refusals of a world.
use Rattle.std.specs.Prelude.{ℕ, List, codes}
use Rattle.node_events.specs.declared.fault.StepFault.{StepFault}
use Rattle.node_events.specs.declared.fault.StepFault.TheVariants as OfStep
use Rattle.node_events.specs.Fault as step
use Rattle.world_core.specs.declared.fault.WorldFault.{WorldFault}
use Rattle.world_core.specs.declared.fault.WorldFault.TheVariants.{IncarnationSpent, NoSuchFrame, NoSuchRead, NoSuchNode, LooksLikeFrame, NoSuchImage, Step, Memory}

-- the number of a refusal
abbrev pub code_of : WorldFault → ℕ
code_of IncarnationSpent = 35
code_of NoSuchFrame = 42
code_of NoSuchRead = 43
code_of NoSuchNode = 44
code_of LooksLikeFrame = 45
code_of NoSuchImage = 46
code_of (Step fault) = step.code_of fault
code_of Memory = 99

-- the name of a refusal
abbrev pub fault_name : WorldFault → List ℕ
fault_name IncarnationSpent = codes "IncarnationSpent"
fault_name NoSuchFrame = codes "NoSuchFrame"
fault_name NoSuchRead = codes "NoSuchRead"
fault_name NoSuchNode = codes "NoSuchNode"
fault_name LooksLikeFrame = codes "LooksLikeFrame"
fault_name NoSuchImage = codes "NoSuchImage"
fault_name (Step fault) = step.fault_name fault
fault_name Memory = codes "Memory"

-- the refusal of a step
abbrev pub of_step : StepFault → WorldFault
of_step OfStep.Memory = Memory
of_step fault = Step fault
