-- What was read of a file, and what is told of the file by the bytes that follow. The rule is our
-- own.
use Rattle.std.specs.Prelude.{◌≡◌, ℕ, ◌+◌, ◌-◌, List, ◌++◌, length, Result, Ok, Err, Bool, true, false, if◌then◌else◌}
use Rattle.meta_store.specs.declared.fault.StoreFault.TheVariants.{StoreFull}
use Rattle.meta_store.specs.Step.{is_full_for}
use Rattle.meta_store.specs.Table.{with_object}
use Rattle.node_file.specs.declared.fault.FileFault.{FileFault}
use Rattle.node_file.specs.declared.fault.FileFault.TheVariants.{Damaged, Store}
use Rattle.node_file.specs.declared.record.Record.{Record}
use Rattle.node_file.specs.declared.record.Record.TheVariants.{Life, Object}
use Rattle.node_file.specs.File.{FileState, ended}
use Rattle.node_file.specs.Fold.{Contents, contents_from, life_from}

-- a front and the records behind it, as far as they were read
pub record ReadSoFar : Type 0 where
  pub version : ℕ
  pub node : ℕ
  pub contents : Contents
  -- there are more keys than a store holds; of the contents only the life counts
  pub has_too_many : Bool
  -- how many bytes were read: the offset of the next gate
  pub at : ℕ

-- ---- what is told of the file

-- of a file of `total` bytes with too many keys: the first fault behind, or else that
abbrev pub ended_full : ℕ → Result (ℕ × ℕ) ℕ → Result (FileState × ℕ) FileFault
ended_full total (Err left) = Err (Damaged (total - left))
ended_full total (Ok read) = Err (Store StoreFull)

abbrev pub told_of_file : ReadSoFar → ℕ → List ℕ → Result (FileState × ℕ) FileFault
told_of_file p total behind =
    if p.has_too_many then ended_full total (life_from p.version p.contents.life 0 behind)
    else ended total (p.version, p.node) (contents_from p.version p.contents 0 behind)

-- of a file that goes on with these bytes: what it stands for, or its first fault
unfoldable pub told_of : ReadSoFar → List ℕ → Result (FileState × ℕ) FileFault
told_of p behind = told_of_file p (p.at + length behind) behind

-- ---- one record more

abbrev pub with_life : ReadSoFar → ℕ → ReadSoFar
with_life p life = record {
  version = p.version;
  node = p.node;
  contents = record { life = life; table = p.contents.table };
  has_too_many = p.has_too_many;
  at = p.at;
}

abbrev pub with_too_many : ReadSoFar → ReadSoFar
with_too_many p = record {
  version = p.version;
  node = p.node;
  contents = p.contents;
  has_too_many = true;
  at = p.at;
}

-- with what a record says, if it may follow
abbrev pub with_said : ReadSoFar → Record → ReadSoFar
with_said p (Life n) = with_life p n
with_said p (Object k o) =
    if p.has_too_many then p
    else (if is_full_for p.contents.table k then with_too_many p
    else record {
      version = p.version;
      node = p.node;
      contents = record { life = p.contents.life; table = with_object k o p.contents.table };
      has_too_many = p.has_too_many;
      at = p.at;
    })

-- with so many bytes more
abbrev pub moved_on : ReadSoFar → ℕ → ReadSoFar
moved_on p n = record {
  version = p.version;
  node = p.node;
  contents = p.contents;
  has_too_many = p.has_too_many;
  at = p.at + n;
}

-- what the bytes of a record leave: they are counted, and what is told then by the bytes behind it
-- is what was told by it and them before; or all that follow are refused at its gate
abbrev pub HasTaken : List ℕ → ReadSoFar → ReadSoFar → Bool → Type 0
HasTaken bytes old new true =
    (new.at ≡ old.at + length bytes)
    × ((rest : List ℕ) → told_of new rest ≡ told_of old (bytes ++ rest))
HasTaken bytes old new false =
    (new ≡ old) × ((rest : List ℕ) → told_of old (bytes ++ rest) ≡ Err (Damaged old.at))
