-- How a run ended, and the exit status that says so.
use Rattle.std.proofs.Common.{◌≡◌, ℕ, List, Result, Ok, Err, None, IfErr, OnOk, inl, inr}
use Rattle.std.specs.Io.KnownBytes.{Keeps}
use Rattle.streams.specs.Moment.{SinkAt}
use Rattle.scenario.specs.Output.{Manner}
use Rattle.scenario.specs.declared.fault.ScenarioFault.{ScenarioFault}
use Rattle.scenario.specs.Run.{EndsText, Prints}
use Rattle.plumctl_core.specs.Scenario.{EndsAndTells, TellsScenario, status_of_scenario}

-- of the run of a text, and of the status
pub ends_and_tells : (manner : Manner) (text : List ℕ) (w v e d : SinkAt) (status : ℕ) (ended : Result Unit ScenarioFault) → OnOk ended (Prints manner text w v None) → IfErr ended (EndsText manner text w v)
    → OnOk ended ((status ≡ 0) × Keeps e.contents d.contents) → IfErr ended (λ fault. (status ≡ status_of_scenario fault) × TellsScenario e d text fault) → EndsAndTells manner text w v e d status
ends_and_tells manner text w v e d status (Ok done) prints early kept told = inl (record { status_is = kept.0; kept = kept.1; prints = prints })
ends_and_tells manner text w v e d status (Err fault) prints early kept told = inr (record { fault = fault; status_is = told.0; told = told.1; ends = early })
