-- A text of lines: which line is which command, and which is the first that breaks a rule. A text
-- is read whole before anything is run.
use Rattle.std.specs.Prelude.{ℕ, ◌+◌, ◌==◌, Bool, true, false, not, ◌||◌, if◌then◌else◌, List, [], ◌∷◌, Option, Some, None}
use Rattle.streams.specs.Line.{lines_of}
use Rattle.scenario_text.specs.Word.{Word, words_of}
use Rattle.scenario_text.specs.Commands.{Command, Nodes, command_of}

-- what a line is: skipped, as an empty line or one that begins with `#`; a command; or bad
pub data Line : Type 0 where
  Skipped : Line
  Asks : Command → Line
  Bad : Line

abbrev pub starts_comment : List ℕ → Bool
starts_comment [] = false
starts_comment (b ∷ bytes) = b == 35

abbrev pub asked_of : Option Command → Line
asked_of None = Bad
asked_of (Some command) = Asks command

abbrev pub line_of_words : ℕ → List Word → Line
line_of_words resolvers [] = Skipped
line_of_words resolvers (first ∷ words) =
    if starts_comment first then Skipped else asked_of (command_of resolvers (first ∷ words))

-- what a line is, with this number of resolvers at hand
abbrev pub line_of : ℕ → List ℕ → Line
line_of resolvers line = line_of_words resolvers (words_of line)

abbrev pub is_nodes : Command → Bool
is_nodes (Nodes count) = true
is_nodes command = false

-- whether a line breaks a rule: `nodes` stands first and only there; `begun` says whether it has
-- stood before
abbrev pub breaks : Bool → Line → Bool
breaks begun Skipped = false
breaks begun (Asks command) = if begun then is_nodes command else not (is_nodes command)
breaks begun Bad = true

abbrev begins : Line → Bool
begins Skipped = false
begins (Asks command) = true
begins Bad = false

-- the number of the first line that breaks a rule; the first of these lines has this number
abbrev pub first_bad_from : ℕ → Bool → ℕ → List (List ℕ) → Option ℕ
first_bad_from resolvers begun number [] = None
first_bad_from resolvers begun number (line ∷ lines) =
    if breaks begun (line_of resolvers line)
    then Some number
    else first_bad_from resolvers (begun || begins (line_of resolvers line)) (number + 1) lines

-- lines are counted from 1
abbrev pub first_bad : ℕ → List ℕ → Option ℕ
first_bad resolvers text = first_bad_from resolvers false 1 (lines_of text)

abbrev onto_commands : Line → List Command → List Command
onto_commands Skipped commands = commands
onto_commands (Asks command) commands = command ∷ commands
onto_commands Bad commands = commands

abbrev pub commands_of_lines : ℕ → List (List ℕ) → List Command
commands_of_lines resolvers [] = []
commands_of_lines resolvers (line ∷ lines) =
    onto_commands (line_of resolvers line) (commands_of_lines resolvers lines)

-- the commands of a text, in their order
abbrev pub commands_of : ℕ → List ℕ → List Command
commands_of resolvers text = commands_of_lines resolvers (lines_of text)

-- how many nodes there are, and the commands to them and to who drives them
pub record Scenario : Type 0 where
  pub nodes : ℕ
  pub commands : List Command

-- the scenario that commands are, if they are one: the first says how many nodes there are
abbrev pub scenario_of : List Command → Option Scenario
scenario_of [] = None
scenario_of (Nodes count ∷ commands) = Some (record { nodes = count; commands = commands })
scenario_of (command ∷ commands) = None
