-- How a store keeps its table: the full prefixes in order, and under each its keys by their own
-- bytes.
use Rattle.std.specs.Prelude.{◌≡◌, ◌≢◌, ℕ, true, not, List, [], ◌∷◌, map, All}
use Rattle.std.specs.List.{filter, flat_map}
use Rattle.std.specs.Option.{unwrap_or}
use Rattle.std.specs.Ordering.{is_eq}
use Rattle.std.specs.FinMap.{find, put, is_sorted}
use Rattle.meta_types.specs.Name.{Prefix, Key, IsName, most_key_len}
use Rattle.meta_types.specs.Order.{bytes_cmp, prefix_cmp, prefix_eq}
use Rattle.dvvset.specs.Object.{Entry}
use Rattle.meta_store.specs.Table.{IsTable}

-- the own bytes of the keys under one full prefix, each with what stands under it
abbrev pub RowsOf : Type 0 → Type 0
RowsOf X = List (List ℕ × X)

-- full prefixes, each with the rows under it
abbrev pub PartsOf : Type 0 → Type 0
PartsOf X = List (Prefix × RowsOf X)

-- a store keeps objects
abbrev pub Rows : Type 0
Rows = RowsOf (List Entry)

abbrev pub Parts : Type 0
Parts = PartsOf (List Entry)

-- the rows of one full prefix as rows of a table
abbrev pub rows_under : {X : Type 0} → Prefix → RowsOf X → List (Key × X)
rows_under prefix rows = map (λ row. (record { prefix = prefix; key = row.0 }, row.1)) rows

-- all rows that are kept so, in order: for a store, its table
abbrev pub table_of : {X : Type 0} → PartsOf X → List (Key × X)
table_of parts = flat_map (λ part. rows_under part.0 part.1) parts

-- the rows under a full prefix, none if it holds no key
abbrev pub rows_at : {X : Type 0} → Prefix → PartsOf X → RowsOf X
rows_at prefix parts = unwrap_or (find prefix_cmp prefix parts) []

-- the object of a row, the absent one if there is no such row
abbrev pub object_of_row : List ℕ → Rows → List Entry
object_of_row key rows = unwrap_or (find bytes_cmp key rows) []

-- the rows without the row of the key
abbrev pub without_row : {X : Type 0} → List ℕ → RowsOf X → RowsOf X
without_row key rows = filter (λ row. not (is_eq (bytes_cmp key row.0))) rows

-- these rows under the full prefix in place of those there; if there are none, the full prefix is
-- taken out
abbrev pub with_rows : {X : Type 0} → Prefix → RowsOf X → PartsOf X → PartsOf X
with_rows prefix [] parts = filter (λ part. not (prefix_eq prefix part.0)) parts
with_rows prefix (row ∷ rows) parts = put prefix_cmp prefix (row ∷ rows) parts

-- the keys' own bytes rise strictly, and each has a length in range
pub record AreRows {X : Type 0} (rows : RowsOf X) : Type 0 where
  pub rising : is_sorted bytes_cmp rows ≡ true
  pub named : All (λ row. IsName most_key_len row.0) rows

-- the full prefixes rise strictly, each holds a key, and together they are a table
pub record AreParts (parts : Parts) : Type 0 where
  pub rising : is_sorted prefix_cmp parts ≡ true
  pub filled : All (λ part. part.1 ≢ []) parts
  pub table : IsTable (table_of parts)
