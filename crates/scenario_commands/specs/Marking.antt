-- Which frames wait, and what a command does to their marks. A frame that was given stays so
-- (`laws::each_command_sets_its_marks`).
use Rattle.std.specs.Prelude.{◌≡◌, ◌≤◌, ◌⊎◌, ℕ, ◌+◌, Bool, true, false, List, [], ◌∷◌, ◌++◌, length, replicate}
use Rattle.scenario_text.specs.Commands.{Command, Deliver, Settle}
use Rattle.scenario_commands.specs.Obeying.{with_given}

-- the numbers of the frames that were not given, in rising order; the first mark is of this number
abbrev pub all_waiting : ℕ → List Bool → List ℕ
all_waiting number [] = []
all_waiting number (true ∷ given) = all_waiting (number + 1) given
all_waiting number (false ∷ given) = number ∷ all_waiting (number + 1) given

-- the marks are those that were there, and after them unset marks of frames that were sent
pub record AddsUnset (old new : List Bool) : Type 0 where
  pub sent : ℕ
  pub new_is : new ≡ old ++ replicate sent false

-- unset marks were added, and the mark of this frame is set
abbrev pub SetsOne : ℕ → (old new : List Bool) → Type 0
SetsOne frame old new = (1 ≤ frame) × AddsUnset (with_given frame old) new

-- which marks a command sets: the mark of the frame that it delivers, or none; a settling sets all
-- of them, including those of frames that it sends
abbrev pub SetsMarks : Command → (old new : List Bool) → Type 0
SetsMarks (Deliver frame to word) old new = SetsOne frame old new ⊎ AddsUnset old new
SetsMarks Settle old new = (length old ≤ length new) × (all_waiting 1 new ≡ [])
SetsMarks command old new = AddsUnset old new
