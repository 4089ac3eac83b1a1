-- Each command of a lawful stage is obeyed, or passes the limit; and each text has an output.
use Rattle.std.proofs.Common.{◌≡◌, ◌≤◌, ◌⊎◌, ℕ, inl, inr, List, [], ◌∷◌, ◌++◌, length, Option, Some, None, refl}
use Rattle.std.specs.Prelude.{codes, slice_get}
use Rattle.std.specs.List.{AllByRecursion}
use Rattle.dvvset.specs.Clock.{values_of}
use Rattle.meta_store.specs.Table.{object_at}
use Rattle.meta_types.specs.Node.{most_nodes}
use Rattle.meta_types.specs.declared.fault.TypeFault.{TypeFault}
use Rattle.scenario.specs.Ending.{bad_line, limit_line}
use Rattle.scenario.specs.Output.{PlaysOrNothing, PlaysUnless, Runs, plain}
use Rattle.scenario.specs.declared.fault.ScenarioFault.{ScenarioFault}
use Rattle.scenario.specs.declared.fault.ScenarioFault.TheVariants.{BadLine, Limit}
use Rattle.scenario_commands.specs.Meaning.{event_of, report_of}
use Rattle.scenario_commands.specs.Obeying.{Acts, ActsUnless, Choices, Obeys, PassesLimit, Stage, chosen_by, new_stage}
use Rattle.scenario_commands.specs.Printed.{line, name_refused}
use Rattle.scenario_text.specs.Commands.{Command, Keep, Resolve, Settle, fault_in}
use Rattle.scenario_text.specs.Script.{Scenario, commands_of, first_bad, scenario_of}
use Rattle.scenario_outcomes.specs.Outcome.{EachEventOfAWorldHasAnOutcome, EachTextHasAnOutput, WorldsStayLawful}
use Rattle.scenario_outcomes.proofs.Bringing.{IsBrought, IsOfText, all_of_text, event_brings, lawful_if_no_fault, of_scenario}
use Rattle.scenario_outcomes.proofs.Commands.{IsLawfulStage, Leads, acts_or_looks, chosen_lawful, keeps, resolves, siblings_lawful}
use Rattle.scenario_outcomes.proofs.Settling.{settles}
use Rattle.world_core.specs.Refusal.{table_at}

module _ (outcomes : EachEventOfAWorldHasAnOutcome) (worlds : WorldsStayLawful) where
  -- ---- a command

  acts : (choices : Choices) (old : Stage) (command : Command) → IsLawfulStage old → IsBrought command → fault_in command ≡ None
      → Leads (Acts choices old command) ⊎ PassesLimit old command
  acts choices old (Keep n None) lawful brought in_range = inl (keeps outcomes worlds old n lawful)
  acts choices old (Resolve n k by) lawful brought in_range =
      let siblings = values_of (object_at (table_at old.world n) k) in
      let value = chosen_lawful (slice_get choices by) siblings (siblings_lawful old.world n k lawful) in
      inl (resolves outcomes worlds old n k (chosen_by choices by siblings) lawful (lawful_if_no_fault k in_range) value)
  acts choices old Settle lawful brought in_range = settles outcomes worlds old lawful
  acts choices old command lawful brought in_range =
      let brings = event_brings old.world command brought in_range in
      inl (acts_or_looks outcomes worlds old (event_of old.world command) (report_of old.world command) lawful brings)

  acts_unless : (fault : Option TypeFault) (choices : Choices) (old : Stage) (command : Command) → IsLawfulStage old
      → IsBrought command → fault_in command ≡ fault → Leads (ActsUnless fault choices old command) ⊎ PassesLimit old command
  acts_unless (Some fault) choices old command lawful brought is =
      inl (record { text = name_refused fault; new = old; is = (refl, refl); lawful = lawful })
  acts_unless None choices old command lawful brought is = acts choices old command lawful brought is

  obeys : (choices : Choices) (old : Stage) (command : Command) → IsLawfulStage old → IsBrought command
      → Leads (Obeys choices old command) ⊎ PassesLimit old command
  obeys choices old command lawful brought = acts_unless (fault_in command) choices old command lawful brought refl

  -- ---- a run

  runs : (choices : Choices) (old : Stage) (commands : List Command) → IsLawfulStage old → AllByRecursion IsOfText commands
      → (text : List ℕ) × (ended : Option ScenarioFault) × Runs (plain choices) old commands text ended
  runs choices old [] lawful all = ([], None, (refl, refl))
  runs choices old (command ∷ commands) lawful all = elim (obeys choices old command lawful all.0.1) [
    | inl h ↦
        let rest = runs choices h.new commands h.lawful all.1 in
        (h.text ++ rest.0, rest.1, inr (h.text, rest.0, h.new, h.is, rest.2, refl))
    | inr past ↦ (limit_line, Some Limit, inl (past, refl, refl))
  ]

  -- ---- a text

  plays : (choices : Choices) (scenario : Option Scenario)
      → ((s : Scenario) → scenario ≡ Some s → (s.nodes ≤ most_nodes) × AllByRecursion IsOfText s.commands)
      → (output : List ℕ) × (ended : Option ScenarioFault) × PlaysOrNothing (plain choices) scenario output ended
  plays choices None is = ([], None, (refl, refl))
  plays choices (Some s) is =
      let here = is s refl in
      let run = runs choices (new_stage s.nodes) s.commands (worlds.begins s.nodes here.0) here.1 in
      let opened = line (codes "ok") in
      (opened ++ run.0, run.1, record { opened = opened; opens = refl; rest = run.0; runs = run.2; output_is = refl })

  output_unless : (bad : Option ℕ) (choices : Choices) (text : List ℕ)
      → (output : List ℕ) × (ended : Option ScenarioFault) × PlaysUnless bad (plain choices) text output ended
  output_unless (Some number) choices text = (bad_line number, Some (BadLine number), (refl, refl))
  output_unless None choices text =
      let commands = commands_of (length choices) text in
      plays choices (scenario_of commands) (λ s is. of_scenario commands s (all_of_text (length choices) text) is)

  pub each_has_an_output : EachTextHasAnOutput
  each_has_an_output choices text =
      let is = output_unless (first_bad (length choices) text) choices text in record { output = is.0; ended = is.1; is = is.2 }
