-- Why a command was not obeyed to its end.
use Rattle.std.specs.Prelude.{ℕ, List, codes}
use Rattle.scenario_commands.specs.declared.fault.StageFault.{StageFault}
use Rattle.scenario_commands.specs.declared.fault.StageFault.TheVariants.{Limit, Memory}

-- the number of a fault
abbrev pub code_of : StageFault → ℕ
code_of Limit = 71
code_of Memory = 99

-- the name of a fault
abbrev pub fault_name : StageFault → List ℕ
fault_name Limit = codes "Limit"
fault_name Memory = codes "Memory"

-- the most deliveries of one settling
abbrev pub most_deliveries : ℕ
most_deliveries = 100000
