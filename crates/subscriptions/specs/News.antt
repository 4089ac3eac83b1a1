-- A change that watches are to note.
use Rattle.std.specs.Prelude.{ℕ, ◌-◌}
use Rattle.subscriptions.specs.declared.change.Change.{Change}

-- the change, and how many notes of it are left
pub record NewsParts : Type 0 where
  pub change : Change
  pub notes : ℕ

abbrev pub one_note_fewer : NewsParts → NewsParts
one_note_fewer n = record n { notes = n.notes - 1 }
