-- The line of the fault that ended a scenario.
use Rattle.std.specs.Prelude.{ℕ, List, [], ◌++◌, codes, decimal}
use Rattle.scenario_commands.specs.Printed.{line}
use Rattle.scenario.specs.declared.fault.ScenarioFault.{ScenarioFault}
use Rattle.scenario.specs.declared.fault.ScenarioFault.TheVariants.{BadLine, Limit, Stream}

-- of the first line that breaks a rule, by its number
abbrev pub bad_line : ℕ → List ℕ
bad_line number = line (codes "error 70 BadLine " ++ decimal number)

-- of a settling that would go on
abbrev pub limit_line : List ℕ
limit_line = line (codes "error 71 Limit")

-- a fault of reading or writing has no line, nor has 99 `Memory`
abbrev pub end_line : ScenarioFault → List ℕ
end_line (BadLine number) = bad_line number
end_line Limit = limit_line
end_line (Stream fault) = []
