-- An explained output, in pieces, and the results in it.
use Rattle.std.proofs.Common.{◌≡◌, ℕ, List, [], ◌∷◌, ◌++◌, Option, Some, None, inl, inr, refl, sym, ap, ◌∙◌, append_assoc}
use Rattle.std.specs.Prelude.{codes}
use Rattle.std.proofs.lemmas.List.{append-nil}
use Rattle.scenario_text.specs.Commands.{Command}
use Rattle.scenario_text.specs.Script.{Scenario, commands_of, first_bad, scenario_of}
use Rattle.scenario_commands.specs.Obeying.{Choices, Stage, new_stage}
use Rattle.scenario_commands.specs.Printed.{line}
use Rattle.scenario.specs.Ending.{bad_line, limit_line}
use Rattle.scenario.specs.Output.{IsOutput, Plays, PlaysOrNothing, PlaysUnless, Runs, plain}
use Rattle.scenario.specs.declared.fault.ScenarioFault.{ScenarioFault}
use Rattle.scenario_explain.specs.Told.{AreResultsOf, AreTold, explained, told_way}
use Rattle.scenario_explain.proofs.Adding.{command_told, none_told, told_after}

-- a text in which nothing is told
plainly : (text : List ℕ) → AreResultsOf text text
plainly text = record {
  pieces = record { told = []; results = text } ∷ [];
  are_told = (none_told, tt);
  output_is = sym (append-nil text);
  results_are = sym (append-nil text);
}

-- one piece in front
piece_then : (told printed rest results text : List ℕ) → AreTold told → AreResultsOf rest results → text ≡ (told ++ printed) ++ rest → AreResultsOf text (printed ++ results)
piece_then told printed rest results text are_told later text_is = record {
  pieces = record { told = told; results = printed } ∷ later.pieces;
  are_told = (are_told, later.are_told);
  output_is = text_is ∙ append_assoc told printed rest ∙ ap (λ (xs : List ℕ). told ++ (printed ++ xs)) later.output_is;
  results_are = ap (λ (xs : List ℕ). printed ++ xs) later.results_are;
}

-- what is printed of a command in front
command_then : (before printed after first rest results text : List ℕ) → AreTold before → AreTold after → first ≡ before ++ (printed ++ after) → AreResultsOf rest results → text ≡ first ++ rest
    → AreResultsOf text (printed ++ results)
command_then before printed after first rest results text told_before told_after first_is later text_is =
    piece_then before printed (after ++ rest) results text told_before
    (piece_then after [] rest results (after ++ rest) told_after later (ap (λ (xs : List ℕ). xs ++ rest) (sym (append-nil after))))
    (text_is ∙ ap (λ (xs : List ℕ). xs ++ rest) (first_is ∙ sym (append_assoc before printed after)) ∙ append_assoc (before ++ printed) after rest)

runs : (choices : Choices) (old : Stage) (commands : List Command) (text : List ℕ) (ended : Option ScenarioFault) → Runs (explained choices) old commands text ended
    → (results : List ℕ) × Runs (plain choices) old commands results ended × AreResultsOf text results
runs choices old [] text ended (text_is, ended_is) = ([], (refl, ended_is), record { pieces = []; are_told = tt; output_is = text_is; results_are = refl })
runs choices old (command ∷ commands) text ended (inl (limit, text_is, ended_is)) = (limit_line, inl (limit, refl, ended_is), rw text_is (plainly limit_line))
runs choices old (command ∷ commands) text ended (inr (first, rest, between, does, others, text_is)) =
    let later = runs choices between commands rest ended others in (
      does.results ++ later.0,
      inr (does.results, later.0, between, does.obeys, later.1, refl),
      command_then does.before does.results (told_way does.results between ++ does.after) first rest later.0 text (command_told does.before does.of_command) (told_after does.results between does.after does.of_nodes) does.text_is later.2 text_is,
    )

plays : (choices : Choices) (scenario : Scenario) (text : List ℕ) (ended : Option ScenarioFault) → Plays (explained choices) scenario text ended
    → (results : List ℕ) × Plays (plain choices) scenario results ended × AreResultsOf text results
plays choices scenario text ended played =
    let ok = line (codes "ok") in
    let later = runs choices (new_stage scenario.nodes) scenario.commands played.rest ended played.runs in (
      ok ++ later.0,
      record { opened = ok; opens = refl; rest = later.0; runs = later.1; output_is = refl },
      piece_then played.opens.before ok played.rest later.0 text (command_told played.opens.before played.opens.of_command) later.2
          (played.output_is ∙ ap (λ (xs : List ℕ). xs ++ played.rest) played.opens.text_is),
    )

plays_or_nothing : (choices : Choices) (scenario : Option Scenario) (text : List ℕ) (ended : Option ScenarioFault) → PlaysOrNothing (explained choices) scenario text ended
    → (results : List ℕ) × PlaysOrNothing (plain choices) scenario results ended × AreResultsOf text results
plays_or_nothing choices None text ended played = ([], (refl, played.1), record { pieces = []; are_told = tt; output_is = played.0; results_are = refl })
plays_or_nothing choices (Some scenario) text ended played = plays choices scenario text ended played

plays_unless : (bad : Option ℕ) (choices : Choices) (text output : List ℕ) (ended : Option ScenarioFault) → PlaysUnless bad (explained choices) text output ended
    → (results : List ℕ) × PlaysUnless bad (plain choices) text results ended × AreResultsOf output results
plays_unless (Some number) choices text output ended played = (bad_line number, (refl, played.1), rw played.0 (plainly (bad_line number)))
plays_unless None choices text output ended played = plays_or_nothing choices (scenario_of (commands_of (plain choices).resolvers text)) output ended played

pub results_in : (choices : Choices) (text output : List ℕ) (ended : Option ScenarioFault) → IsOutput (explained choices) text output ended
    → (results : List ℕ) × IsOutput (plain choices) text results ended × AreResultsOf output results
results_in choices text output ended is = plays_unless (first_bad (plain choices).resolvers text) choices text output ended is
