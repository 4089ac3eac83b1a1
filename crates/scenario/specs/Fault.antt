-- Why a run did not go through to its end.
use Rattle.std.specs.Prelude.{ℕ, List, Option, Some, codes}
use Rattle.streams.specs.Fault as stream
use Rattle.streams.specs.declared.fault.StreamFault.TheVariants as stream_faults
use Rattle.scenario_commands.specs.declared.fault.StageFault.{StageFault}
use Rattle.scenario_commands.specs.declared.fault.StageFault.TheVariants as stages
use Rattle.scenario.specs.declared.fault.ScenarioFault.{ScenarioFault}
use Rattle.scenario.specs.declared.fault.ScenarioFault.TheVariants.{BadLine, Limit, Stream}

-- the number of a fault; a writer that failed has none
abbrev pub code_of : ScenarioFault → Option ℕ
code_of (BadLine line) = Some 70
code_of Limit = Some 71
code_of (Stream fault) = stream.code_of fault

-- the name of a fault
abbrev pub fault_name : ScenarioFault → List ℕ
fault_name (BadLine line) = codes "BadLine"
fault_name Limit = codes "Limit"
fault_name (Stream fault) = stream.fault_name fault

-- the fault of a scenario in which a command ended with this one
abbrev pub of_stage : StageFault → ScenarioFault
of_stage stages.Limit = Limit
of_stage stages.Memory = Stream stream_faults.Memory
