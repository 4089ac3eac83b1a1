-- Records that wait to be stored, and the bytes that the host is to write for them. The rule is our
-- own.
use Rattle.std.specs.Prelude.{◌≡◌, ℕ, List, [], ◌∷◌, ◌++◌, All, Option, Some, None, Result, Ok, Err}
use Rattle.node_file.specs.declared.record.Record.{Record}
use Rattle.node_file.specs.Record.{IsRecord}
use Rattle.node_file.specs.Fold.{any_may_follow, fold_records}
use Rattle.node_file.specs.File.{gated}
use Rattle.node_file.specs.Batch.{batch_bytes}

-- the bytes of the records, if there are any: each behind an open gate, and a closed gate behind
-- the last
abbrev pub spelled : List Record → Option (List ℕ)
spelled [] = None
spelled (record_ ∷ records) = Some (batch_bytes (record_ ∷ records))

-- the bytes are one record, with the gates around it
pub record IsOneRecord (bytes : List ℕ) : Type 0 where
  pub said : Record
  pub lawful : IsRecord said
  pub gated : bytes ≡ gated said

-- ---- read again

abbrev pub put_behind : List Record → Record → List Record
put_behind records record_ = records ++ record_ ∷ []

abbrev pub read_or_none : Result (List Record × ℕ) ℕ → List Record
read_or_none (Ok read) = read.0
read_or_none (Err left) = []

-- the records that the bytes have up to a closed gate
unfoldable pub records_in : List ℕ → List Record
records_in bytes = read_or_none (fold_records any_may_follow put_behind 2 [] 0 bytes)

-- the bytes are those of their records, which a file may have
pub record AreRecords (bytes : List ℕ) : Type 0 where
  pub spelled : bytes ≡ batch_bytes (records_in bytes)
  pub lawful : All IsRecord (records_in bytes)
