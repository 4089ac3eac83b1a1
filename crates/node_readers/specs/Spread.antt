-- A table that is spread over buckets, so that a key is found among few others.
use Rattle.std.specs.Prelude.{◌≡◌, ℕ, ◌+◌, ◌*◌, ◌%◌, List, [], get_or, set, fold, All}
use Rattle.std.specs.FinMap.{find}
use Rattle.meta_types.specs.Name.{Key}
use Rattle.meta_types.specs.Order.{key_cmp}
use Rattle.dvvset.specs.Object.{Entry}
use Rattle.meta_store.specs.Table.{IsHeld, Table, object_at, with_object}
use Rattle.meta_store.specs.Kept.{Rows}

-- how many buckets there are
abbrev pub bucket_count : ℕ
bucket_count = 1024

-- the number of some bytes, with one more byte
abbrev pub with_byte : ℕ → ℕ → ℕ
with_byte number byte = (number * 131 + byte) % 65536

-- the number of a key's bucket, by its own bytes
abbrev pub bucket_of : Key → ℕ
bucket_of key = fold with_byte 0 key.key % bucket_count

-- a table for each bucket
abbrev pub Spread : Type 0
Spread = List Table

-- the table of the key's bucket
abbrev pub bucket_at : Key → Spread → Table
bucket_at key spread = get_or spread (bucket_of key) []

-- the object under the key; the empty list is the absent one
abbrev pub object_in : Spread → Key → List Entry
object_in spread key = object_at (bucket_at key spread) key

-- with this object under the key, and all else as before
abbrev pub with_spread : Key → List Entry → Spread → Spread
with_spread key object spread =
    set spread (bucket_of key) (with_object key object (bucket_at key spread))

-- each key is found in its bucket as it is in the table
abbrev pub IsSpreadOf : Table → Spread → Type 0
IsSpreadOf table spread = (key : Key)
    → find key_cmp key (bucket_at key spread) ≡ find key_cmp key table

-- the table with one more row
abbrev pub with_row : Table → Key × List Entry → Table
with_row table row = with_object row.0 row.1 table

-- ---- what private functions cite

-- all that was in it, with these rows put in
abbrev pub TakesRows : List (Key × List Entry) → Spread → Spread → Type 0
TakesRows rows before after = (table : Table) → IsSpreadOf table before
    → IsSpreadOf (fold with_row table rows) after

-- each object may be held
abbrev pub AreHeld : Rows → Type 0
AreHeld rows = All (λ row. IsHeld row.1) rows
