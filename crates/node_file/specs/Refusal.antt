-- Which refusal of a call applies first. An opening may return 30 or 99 in place of any.
use Rattle.std.specs.Prelude.{ℕ, ◌+◌, ◌==◌, List, [], ◌∷◌, length, Bool, not, ◌&&◌, nat_le, nat_lt, Option, Some, Result, Ok, Err}
use Rattle.std.specs.List.{list_all}
use Rattle.meta_types.specs.First.{first_that_applies}
use Rattle.meta_types.specs.Name.{Key}
use Rattle.dvvset.specs.Object.{Entry}
use Rattle.meta_store.specs.Table.{has_few_values, is_small_enough, most_entries, most_merged}
use Rattle.meta_store.specs.declared.fault.StoreFault.TheVariants.{ObjectTooLarge}
use Rattle.node_file.specs.declared.fault.FileFault.{FileFault}
use Rattle.node_file.specs.declared.fault.FileFault.TheVariants.{FileFull, IncarnationSpent, OldVersion, Stopped, Store}
use Rattle.node_file.specs.declared.record.Record.{Record}
use Rattle.node_file.specs.declared.record.Record.TheVariants.{Life, Object}
use Rattle.node_file.specs.Record.{payload}
use Rattle.node_file.specs.File.{FileState, opened}

-- the most bytes of a file: 2^40
abbrev pub most_file : ℕ
most_file = 1099511627776

-- with this record after the gate, and a closed gate after it, the file would be too long
abbrev pub is_too_long_with : ℕ → Record → Bool
is_too_long_with gate record_ = nat_lt most_file (gate + 38 + length (payload record_))

-- the object has few enough entries, each of few enough values, for a record
abbrev pub has_spelling : List Entry → Bool
has_spelling o = nat_le (length o) most_entries && list_all has_few_values o

-- why an append is refused: the file is stopped, it is full, the object is too large
abbrev pub refusal_of_append : Bool → ℕ → Key → List Entry → Option FileFault
refusal_of_append is_stopped gate k o = first_that_applies (
    (is_stopped, Stopped)
    ∷ (has_spelling o && is_too_long_with gate (Object k o), FileFull)
    ∷ (not (is_small_enough most_merged o), Store ObjectTooLarge)
    ∷ [])

-- why no next life is begun in what was opened
abbrev pub refusal_of_life : Result (FileState × ℕ) FileFault → Option FileFault
refusal_of_life (Err fault) = Some fault
refusal_of_life (Ok file) = first_that_applies (
    (file.0.version == 1, OldVersion)
    ∷ (file.0.contents.life == 4294967295, IncarnationSpent)
    ∷ (is_too_long_with file.1 (Life (file.0.contents.life + 1)), FileFull)
    ∷ [])

abbrev pub refusal_of_serve : Option ℕ → List ℕ → Option FileFault
refusal_of_serve asked bytes = refusal_of_life (opened asked bytes)
