-- Of a text there is one output.
use Rattle.std.proofs.Common.{◌≡◌, ℕ, List, [], ◌∷◌, ◌++◌, length, Option, Some, None, inl, inr, sym, ap, subst, ◌∙◌}
use Rattle.scenario_text.specs.Commands.{Command}
use Rattle.scenario_text.specs.Script.{Scenario, commands_of, first_bad, scenario_of}
use Rattle.scenario_commands.specs.Obeying.{Choices, Stage, new_stage}
use Rattle.scenario_commands.proofs.OneStage.{obeys_within, one_obeys}
use Rattle.scenario.specs.Output.{IsOutput, Plays, PlaysOrNothing, PlaysUnless, Runs, plain}
use Rattle.scenario.specs.declared.fault.ScenarioFault.{ScenarioFault}

-- ---- a run

one_run : (choices : Choices) (old : Stage) (commands : List Command) (text other : List ℕ) (ended ending : Option ScenarioFault) → Runs (plain choices) old commands text ended → Runs (plain choices) old commands other ending
    → (text ≡ other) × (ended ≡ ending)
one_run choices old [] text other ended ending a b = (a.0 ∙ sym b.0, a.1 ∙ sym b.1)
one_run choices old (command ∷ commands) text other ended ending (inl (limit, text_is, ended_is)) (inl (also, other_is, ending_is)) = (text_is ∙ sym other_is, ended_is ∙ sym ending_is)
one_run choices old (command ∷ commands) text other ended ending (inl (limit, text_is, ended_is)) (inr (first, rest, between, obeys, others, other_is)) = absurd (obeys_within choices old between command first obeys limit)
one_run choices old (command ∷ commands) text other ended ending (inr (first, rest, between, obeys, others, text_is)) (inl (limit, other_is, ending_is)) = absurd (obeys_within choices old between command first obeys limit)
one_run choices old (command ∷ commands) text other ended ending (inr (first, rest, between, obeys, others, text_is)) (inr (begun, left, behind, also, again, other_is)) =
    let same = one_obeys choices old between behind command first begun obeys also in
    let later = one_run choices behind commands rest left ended ending (subst (λ (s : Stage). Runs (plain choices) s commands rest ended) same.1 others) again in (
      text_is ∙ ap (λ (xs : List ℕ). xs ++ rest) same.0 ∙ ap (λ (xs : List ℕ). begun ++ xs) later.0 ∙ sym other_is,
      later.1,
    )

-- ---- the output for a text

one_play : (choices : Choices) (scenario : Scenario) (one other : List ℕ) (ended ending : Option ScenarioFault) → Plays (plain choices) scenario one ended → Plays (plain choices) scenario other ending → (one ≡ other) × (ended ≡ ending)
one_play choices scenario one other ended ending a b =
    let same = one_run choices (new_stage scenario.nodes) scenario.commands a.rest b.rest ended ending a.runs b.runs in (
      a.output_is ∙ ap (λ (xs : List ℕ). xs ++ a.rest) (a.opens ∙ sym b.opens) ∙ ap (λ (xs : List ℕ). b.opened ++ xs) same.0 ∙ sym b.output_is,
      same.1,
    )

one_play_or_nothing : (choices : Choices) (scenario : Option Scenario) (one other : List ℕ) (ended ending : Option ScenarioFault) → PlaysOrNothing (plain choices) scenario one ended → PlaysOrNothing (plain choices) scenario other ending
    → (one ≡ other) × (ended ≡ ending)
one_play_or_nothing choices None one other ended ending a b = (a.0 ∙ sym b.0, a.1 ∙ sym b.1)
one_play_or_nothing choices (Some scenario) one other ended ending a b = one_play choices scenario one other ended ending a b

one_play_unless : (bad : Option ℕ) (choices : Choices) (text one other : List ℕ) (ended ending : Option ScenarioFault) → PlaysUnless bad (plain choices) text one ended → PlaysUnless bad (plain choices) text other ending
    → (one ≡ other) × (ended ≡ ending)
one_play_unless (Some number) choices text one other ended ending a b = (a.0 ∙ sym b.0, a.1 ∙ sym b.1)
one_play_unless None choices text one other ended ending a b = one_play_or_nothing choices (scenario_of (commands_of (length choices) text)) one other ended ending a b

pub one_output : (choices : Choices) (text one other : List ℕ) (ended ending : Option ScenarioFault) → IsOutput (plain choices) text one ended → IsOutput (plain choices) text other ending → (one ≡ other) × (ended ≡ ending)
one_output choices text one other ended ending a b = one_play_unless (first_bad (length choices) text) choices text one other ended ending a b
