-- One record, by the file that has it alone.
use Rattle.std.specs.Prelude.{◌≡◌, ℕ, List, [], ◌∷◌, ◌++◌, length, Option, Some, None, Result, Ok, Err}
use Rattle.node_file.specs.declared.fault.FileFault.{FileFault}
use Rattle.node_file.specs.declared.record.Record.{Record}
use Rattle.node_file.specs.declared.record.Record.TheVariants.{Life, Object}
use Rattle.meta_store.specs.Table.{IsHeld}
use Rattle.node_file.specs.File.{front_in}

-- ---- the front of a file

abbrev pub front_or_zeros : Result (ℕ × ℕ) FileFault → ℕ × ℕ
front_or_zeros (Ok front) = front
front_or_zeros (Err fault) = (0, 0)

-- the version that a front says, and its node
abbrev pub version_in : List ℕ → ℕ
version_in front = (front_or_zeros (front_in front)).0

abbrev pub node_in : List ℕ → ℕ
node_in front = (front_or_zeros (front_in front)).1

-- the first ten bytes of a file
pub record IsFront (front : List ℕ) : Type 0 where
  pub size : length front ≡ 10
  pub lawful : front_in front ≡ Ok (version_in front, node_in front)

-- ---- a file of few records

-- the file of this front and these records, with a closed gate behind them
abbrev pub file_alone : List ℕ → List ℕ → List ℕ
file_alone front records = front ++ (records ++ 0 ∷ [])

-- what was read of a record, which may say this: nothing if it isn't whole, or says life 0, which
-- follows no other
abbrev pub IsSaid : Option (Record × ℕ) → Option Record → Type 0
IsSaid read (Some said) = (size : ℕ) × (read ≡ Some (said, size))
IsSaid read None = (said : Record) (size : ℕ) → read ≡ Some (said, size) → said ≡ Life 0

-- a store may hold what the record says
abbrev pub MayBeHeld : Record → Type 0
MayBeHeld (Life n) = Unit {0}
MayBeHeld (Object k o) = IsHeld o
