-- What is noted of a stage, so that it need not be gone over after each command.
use Rattle.std.specs.Prelude.{◌≡◌, ℕ, ◌≤◌, Bool, List, length, take}
use Rattle.scenario_text.specs.Commands.{Command}
use Rattle.scenario_commands.specs.Marking.{SetsMarks, all_waiting}

-- these frames wait, and `seen` marks were looked at, which are all
pub record NotesAll (frames : List ℕ) (seen : ℕ) (given : List Bool) : Type 0 where
  pub all_seen : seen ≡ length given
  pub frames_are : frames ≡ all_waiting 1 given

-- these frames wait among the first `seen`
pub record NotesFront (frames : List ℕ) (seen : ℕ) (given : List Bool) : Type 0 where
  pub within : seen ≤ length given
  pub frames_are : frames ≡ all_waiting 1 (take seen given)

-- these frames waited before a command, which has led to these marks
pub record NotedBefore (frames : List ℕ) (seen : ℕ) (command : Command) (given : List Bool)
    : Type 0 where
  pub before : List Bool
  pub noted : NotesAll frames seen before
  pub sets : SetsMarks command before given
