-- The comparisons of rows and of tables: equal exactly if all keys and objects are.
use Rattle.std.specs.Prelude.{◌≡◌, nat_eq, Bool, ◌&&◌, List}
use Rattle.std.specs.Bool.{Decides}
use Rattle.std.specs.Cmp.{IsEquivalence, decided}
use Rattle.std.specs.Cmp.Lexicographic.{pointwise, pointwise_decides, bytes_decides}
use Rattle.meta_types.specs.Ties.{both_decide}
use Rattle.dvvset.specs.Object.{Entry}
use Rattle.dvvset.specs.Equal.{entries_eq, entries_eq-Decides}
use Rattle.meta_types.specs.Equal.{key_eq, keys_decide}
use Rattle.meta_store.specs.Table.{Table}
use Rattle.meta_store.specs.Kept.{Rows}

-- the same key, as `eq` compares them, with an equal object
abbrev pub row_eq : {K : Type 0} → (K → K → Bool) → K × List Entry → K × List Entry → Bool
row_eq eq row other = eq row.0 other.0 && entries_eq row.1 other.1

-- the rows of one full prefix are equal
abbrev pub rows_eq : Rows → Rows → Bool
rows_eq = pointwise (row_eq (pointwise nat_eq))

abbrev pub table_eq : Table → Table → Bool
table_eq = pointwise (row_eq key_eq)

-- Each comparison decides equality of all parts, and so meets the laws of `==`.
row_eq-Decides : {K : Type 0} (eq : K → K → Bool) → ((k l : K) → Decides (eq k l) (k ≡ l))
    → (row other : K × List Entry) → Decides (row_eq eq row other) (row ≡ other)
row_eq-Decides eq keys row other = both_decide
    (eq row.0 other.0) (entries_eq row.1 other.1)
    (keys row.0 other.0) (entries_eq-Decides row.1 other.1)
    (λ names objects i. (names i, objects i))
    (λ same i. (same i).0) (λ same i. (same i).1)

pub rows_eq-Decides : (rows others : Rows) → Decides (rows_eq rows others) (rows ≡ others)
rows_eq-Decides = pointwise_decides (row_eq-Decides (pointwise nat_eq) bytes_decides)

pub table_eq-Decides : (table other : Table) → Decides (table_eq table other) (table ≡ other)
table_eq-Decides = pointwise_decides (row_eq-Decides key_eq keys_decide)

pub rows_equivalence : IsEquivalence rows_eq
rows_equivalence = decided rows_eq rows_eq-Decides

pub table_equivalence : IsEquivalence table_eq
table_equivalence = decided table_eq table_eq-Decides
