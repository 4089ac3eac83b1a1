-- The lines of keys, one more.
use Rattle.std.proofs.Common.{◌≡◌, ◌++◌, ◌∷◌, List, ℕ, sym, ap, ◌∙◌, append_assoc}
use Rattle.std.specs.List.{flat_map}
use Rattle.std.proofs.lemmas.List.Concat.{flat_map-append}
use Rattle.dvvset.specs.Object.{Entry}
use Rattle.meta_types.specs.Name.{Key, Prefix}
use Rattle.meta_store.specs.Kept.{RowsOf, rows_under}
use Rattle.meta_store.specs.Table.{Table}
use Rattle.plumctl_file.specs.Report.{key_line}

pub row_added : (prefix : Prefix) (k : Key) (key : List ℕ) (object : List Entry) (rest : RowsOf (List Entry)) (now later whole : List ℕ)
    → later ≡ now ++ key_line (k, object) → k ≡ record { prefix = prefix; key = key }
    → now ++ flat_map key_line (rows_under prefix ((key, object) ∷ rest)) ≡ whole → later ++ flat_map key_line (rows_under prefix rest) ≡ whole
row_added prefix k key object rest now later whole added is before =
    let lines = flat_map key_line (rows_under prefix rest) in
    ap (λ (text : List ℕ). text ++ lines) (added ∙ ap (λ (k : Key). now ++ key_line (k, object)) is)
    ∙ append_assoc now (key_line (record { prefix = prefix; key = key }, object)) lines ∙ before

-- the lines of the keys under a full prefix, one more
pub rows_added : (rows rest : Table) (now later whole : List ℕ) → later ≡ now ++ flat_map key_line rows
    → now ++ flat_map key_line (rows ++ rest) ≡ whole → later ++ flat_map key_line rest ≡ whole
rows_added rows rest now later whole added before =
    ap (λ (text : List ℕ). text ++ flat_map key_line rest) added
    ∙ append_assoc now (flat_map key_line rows) (flat_map key_line rest)
    ∙ ap (λ (lines : List ℕ). now ++ lines) (sym (flat_map-append key_line rows rest)) ∙ before
