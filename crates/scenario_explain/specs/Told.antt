-- What an explained run prints: the results of each command, and lines that tell more before them
-- and after them. These begin with two spaces. Before the results stands the line of the command;
-- after them the frames that are then on their way, and lines of nodes.
use Rattle.std.specs.Prelude.{◌≡◌, ◌⊎◌, ℕ, List, [], ◌∷◌, ◌++◌, map, codes, decimal}
use Rattle.scenario_text.specs.Commands.{Command}
use Rattle.scenario_text.specs.Hint.{shown_byte}
use Rattle.scenario_commands.specs.Marking.{all_waiting}
use Rattle.scenario_commands.specs.Obeying.{Choices, Obeys, Stage}
use Rattle.scenario_commands.specs.Printed.{line}
use Rattle.scenario.specs.Output.{Manner, manner_of}
use Rattle.scenario_explain.specs.OnTheWay.{way_lines}
use Rattle.scenario_explain.specs.Reason.{reasons_of}

-- a line that is told: two spaces, and then its bytes, with `?` for what can't be printed
unfoldable pub told_line : List ℕ → List ℕ
told_line text = codes "  " ++ (map shown_byte text ++ 10 ∷ [])

abbrev pub told_lines : List (List ℕ) → List ℕ
told_lines [] = []
told_lines (text ∷ texts) = told_line text ++ told_lines texts

-- nothing but lines that are told
pub record AreTold (text : List ℕ) : Type 0 where
  pub lines : List (List ℕ)
  pub text_is : text ≡ told_lines lines

-- the line of a command, as `3: join 1 0`: a number, and what is shown after it; or nothing
abbrev pub IsOfCommand : List ℕ → Type 0
IsOfCommand text = (text ≡ [])
    ⊎ ((number : ℕ) × (shown : List ℕ)
    × (text ≡ told_line (decimal number ++ codes ": " ++ shown)))

-- lines of nodes, as `node 1 shows ..`
pub record AreOfNodes (text : List ℕ) : Type 0 where
  pub lines : List (List ℕ)
  pub text_is : text ≡ told_lines (map (λ line. codes "node " ++ line) lines)

-- what is told between the results of a command and lines of nodes: why it was refused, if it was,
-- and the frames that were never given to their addressees
abbrev pub told_way : List ℕ → Stage → List ℕ
told_way results s = told_lines (reasons_of results ++ way_lines (all_waiting 1 s.given))

-- the line of a command, its results as a run prints them, why it was refused, the frames that are
-- on their way after it, and what nodes show; nothing else is told
pub record Explains (choices : Choices) (old : Stage) (command : Command) (text : List ℕ)
    (new : Stage) : Type 0 where
  pub before : List ℕ
  pub of_command : IsOfCommand before
  pub results : List ℕ
  pub obeys : Obeys choices old command results new
  pub after : List ℕ
  pub of_nodes : AreOfNodes after
  pub text_is : text ≡ before ++ (results ++ (told_way results new ++ after))

-- of `nodes`: what is told before its `ok`
pub record OpensExplained (text : List ℕ) : Type 0 where
  pub before : List ℕ
  pub of_command : IsOfCommand before
  pub text_is : text ≡ before ++ line (codes "ok")

abbrev pub explained : Choices → Manner
explained choices = manner_of OpensExplained Explains choices

-- ---- without what is told

-- lines that are told, and what is printed of results after them
pub record Piece : Type 0 where
  pub told : List ℕ
  pub results : List ℕ

abbrev pub results_of : List Piece → List ℕ
results_of [] = []
results_of (piece ∷ pieces) = piece.results ++ results_of pieces

abbrev pub output_of : List Piece → List ℕ
output_of [] = []
output_of (piece ∷ pieces) = piece.told ++ (piece.results ++ output_of pieces)

abbrev pub AllTold : List Piece → Type 0
AllTold [] = Unit {0}
AllTold (piece ∷ pieces) = AreTold piece.told × AllTold pieces

-- these are the results that stand in an explained output, without what is told between them
pub record AreResultsOf (output results : List ℕ) : Type 0 where
  pub pieces : List Piece
  pub are_told : AllTold pieces
  pub output_is : output ≡ output_of pieces
  pub results_are : results ≡ results_of pieces

-- ---- what private functions cite

-- the line of a command was added
pub record AddsCommand (text_old text_new : List ℕ) : Type 0 where
  pub added : List ℕ
  pub of_command : IsOfCommand added
  pub text_is : text_new ≡ text_old ++ added

-- lines of nodes were added
pub record AddsOfNodes (text_old text_new : List ℕ) : Type 0 where
  pub added : List ℕ
  pub of_nodes : AreOfNodes added
  pub text_is : text_new ≡ text_old ++ added
