-- Whether a part of a scenario has something to draw, and how `draw` ends for who started it. Where
-- no command stands in the part, the arguments are wrong: that is status 2.
use Rattle.std.specs.Prelude.{◌≡◌, ◌≢◌, ◌⊎◌, ℕ, zero, suc, ◌-◌, ◌^◌, nat_lt, Bool, true, false, ◌&&◌, ◌||◌, if◌then◌else◌, List, [], ◌∷◌, ◌++◌, codes}
use Rattle.std.specs.Io.KnownBytes.{Keeps}
use Rattle.streams.specs.Line.{lines_of}
use Rattle.streams.specs.Moment.{SinkAt, SourceAt}
use Rattle.streams.specs.declared.fault.StreamFault.{StreamFault}
use Rattle.scenario.specs.Run.{ReadsAll, ReadsPart}
use Rattle.scenario_text.specs.Hint.{is_skipped}
use Rattle.plumctl_core.specs.Opening.{TellsText}
use Rattle.plumctl_core.specs.Status.{status_of_fault}

-- ---- a part of a text

-- the lines after the first `count`
abbrev pub lines_behind : ℕ → List (List ℕ) → List (List ℕ)
lines_behind zero lines = lines
lines_behind (suc count) [] = []
lines_behind (suc count) (line ∷ lines) = lines_behind count lines

-- whether no command stands in the first `count` lines: each is empty or a comment
abbrev pub are_skipped : ℕ → List (List ℕ) → Bool
are_skipped zero lines = true
are_skipped (suc count) [] = true
are_skipped (suc count) (line ∷ lines) = is_skipped line && are_skipped count lines

-- whether no command stands in the lines from one number to another, which are counted from 1; a
-- line that breaks a rule is a command here
abbrev pub asks_nothing : (from to : ℕ) → List ℕ → Bool
asks_nothing from to text = are_skipped (to - (from - 1)) (lines_behind (from - 1) (lines_of text))

-- ---- what is printed then

-- the greatest number of a line
abbrev pub last_line : ℕ
last_line = 2 ^ 64 - 1

-- why there is nothing to draw
abbrev pub nothing_cause : (from to : ℕ) → List ℕ
nothing_cause from to =
    if nat_lt to from then codes "error: nothing to draw: --from is a later line than --to"
    else if nat_lt 1 from || nat_lt to last_line
    then codes "error: nothing to draw: no command stands in the lines that are asked for"
    else codes "error: nothing to draw: the text has no command"

-- the line that says so
abbrev pub nothing_line : (from to : ℕ) → List ℕ
nothing_line from to = nothing_cause from to ++ 10 ∷ []

-- ---- how the command ends

-- nothing was drawn: why was printed at standard error, as far as that takes it, and nothing was
-- written
pub record DrawsNothing (from to : ℕ) (writer_old writer_new errors_old errors_new : SinkAt)
    : Type 0 where
  pub told : TellsText errors_old errors_new (nothing_line from to)
  pub kept : Keeps writer_old.contents writer_new.contents

-- the status of a text that was read: 2 exactly if its part has no command
abbrev pub IsDrawStatus : (from to : ℕ) → List ℕ → (status : ℕ) → Type 0
IsDrawStatus from to text status =
    ((asks_nothing from to text ≡ true) × (status ≡ 2))
    ⊎ ((asks_nothing from to text ≡ false) × (status ≢ 2))

-- the whole input was read, and this is the status
pub record DrawsInput (from to : ℕ) (reader_old reader_new : SourceAt) (status : ℕ)
    : Type 0 where
  pub text : List ℕ
  pub reads : ReadsAll reader_old reader_new text
  pub status_is : IsDrawStatus from to text status

-- or the reading was stopped by a fault, which has the status, and that is not 2
pub record StopsDrawing (reader_old reader_new : SourceAt) (status : ℕ) : Type 0 where
  pub fault : StreamFault
  pub stops : ReadsPart reader_old reader_new fault
  pub status_is : status ≡ status_of_fault fault
  pub run : status ≢ 2

-- the status of the command, by what the reader gave
abbrev pub EndsDrawing : (from to : ℕ) → (reader_old reader_new : SourceAt) → (status : ℕ)
    → Type 0
EndsDrawing from to reader_old reader_new status =
    DrawsInput from to reader_old reader_new status ⊎ StopsDrawing reader_old reader_new status
