-- The bytes of a file of version 2 by its records, and those of a clean copy. The rule is our own.
use Rattle.std.specs.Prelude.{ℕ, List, [], ◌∷◌, ◌++◌, map, ◌==◌, if◌then◌else◌}
use Rattle.std.specs.Int.{w16, to_be_bytes}
use Rattle.meta_types.specs.Name.{Key}
use Rattle.dvvset.specs.Object.{Entry}
use Rattle.meta_store.specs.Table.{Table}
use Rattle.node_file.specs.declared.record.Record.{Record}
use Rattle.node_file.specs.declared.record.Record.TheVariants.{Life, Object}
use Rattle.node_file.specs.Record.{payload, record_bytes}
use Rattle.node_file.specs.File.{magic}

-- records, each behind an open gate, and a closed gate behind the last
unfoldable pub behind_gates : List Record → List ℕ
behind_gates [] = 0 ∷ []
behind_gates (record_ ∷ records) = 1 ∷ (record_bytes (payload record_) ++ behind_gates records)

-- the file of a node with these records: without any it is the empty file
unfoldable pub file_of : ℕ → List Record → List ℕ
file_of node records = magic ++ (to_be_bytes w16 node ++ behind_gates records)

-- ---- a clean copy

-- the record of the last life, unless there is none
abbrev pub life_records : ℕ → List Record
life_records life = if life == 0 then [] else Life life ∷ []

-- that of a row of the table
abbrev pub row_record : Key × List Entry → Record
row_record row = Object row.0 row.1

-- a clean copy of a file has the record of its last life, then one of each row of its table, in
-- order, and no other
abbrev pub clean_bytes : ℕ → ℕ → Table → List ℕ
clean_bytes node life table = file_of node (life_records life ++ map row_record table)
