-- The keys of a store, listed part by part.
use Rattle.std.proofs.Common.{◌≡◌, ℕ, List, [], ◌∷◌, ◌++◌, map, refl, sym, ap, ◌∙◌, append_assoc}
use Rattle.std.proofs.lemmas.List.{map-append}
use Rattle.meta_types.specs.Name.{Key, Prefix}
use Rattle.dvvset.specs.Object.{Entry}
use Rattle.meta_store.specs.Kept.{Parts, Rows, rows_under, table_of}
use Rattle.meta_store.specs.Table.{Table}

-- the keys of rows under a full prefix
abbrev pub keys_in : Prefix → Rows → List Key
keys_in prefix rows = map (λ row. record { prefix = prefix; key = row.0 }) rows

-- the keys of a table
abbrev pub all_keys : Table → List Key
all_keys table = map (λ row. row.0) table

-- one key was added, and these rows are left
pub key_added : (prefix : Prefix) (keys new all : List Key) (key : Key) (own : List ℕ) (object : List Entry) (left next : Rows) → keys ++ keys_in prefix left ≡ all → left ≡ (own, object) ∷ next
    → key ≡ record { prefix = prefix; key = own } → new ≡ keys ++ key ∷ [] → new ++ keys_in prefix next ≡ all
key_added prefix keys new all key own object left next so_far is key_is added =
    ap (λ (ks : List Key). ks ++ keys_in prefix next) (added ∙ ap (λ (k : Key). keys ++ k ∷ []) key_is)
    ∙ append_assoc keys ((record { prefix = prefix; key = own }) ∷ []) (keys_in prefix next)
    ∙ ap (λ (rows : Rows). keys ++ keys_in prefix rows) (sym is) ∙ so_far

keys_under_one : (prefix : Prefix) (rows : Rows) → all_keys (rows_under prefix rows) ≡ keys_in prefix rows
keys_under_one prefix [] = refl
keys_under_one prefix (row ∷ rows) = ap (λ (ks : List Key). (record { prefix = prefix; key = row.0 }) ∷ ks) (keys_under_one prefix rows)

-- the keys of one part were added, and these parts are left
pub part_added : (keys new all : List Key) (prefix : Prefix) (rows : Rows) (left next : Parts) → keys ++ all_keys (table_of left) ≡ all → left ≡ (prefix, rows) ∷ next → new ≡ keys ++ keys_in prefix rows
    → new ++ all_keys (table_of next) ≡ all
part_added keys new all prefix rows left next so_far is added =
    ap (λ (ks : List Key). ks ++ all_keys (table_of next)) (added ∙ ap (λ (ks : List Key). keys ++ ks) (sym (keys_under_one prefix rows)))
    ∙ append_assoc keys (all_keys (rows_under prefix rows)) (all_keys (table_of next))
    ∙ ap (λ (ks : List Key). keys ++ ks) (sym (map-append (λ row. row.0) (rows_under prefix rows) (table_of next)))
    ∙ ap (λ (parts : Parts). keys ++ all_keys (table_of parts)) (sym is) ∙ so_far
