-- The place of a key among the rows of a leaf.
use Rattle.std.proofs.Common.{◌≡◌, ℕ, zero, suc, ◌+◌, ◌<◌, ◌≤◌, cond, not, T, List, [], ◌∷◌, ◌++◌, length, map, take, get_or, All, Some, None, refl, sym, ap, ◌∙◌, arith}
use Rattle.std.specs.Prelude.{slice_set}
use Rattle.std.specs.List.{flat_map, insert, remove}
use Rattle.std.specs.Ordering.{is_eq}
use Rattle.std.specs.declared.cmp.Ordering.TheVariants.{Less, Equal, Greater}
use Rattle.std.specs.FinMap.{find, is_sorted, put}
use Rattle.std.specs.FinMap.Entries.{by_order}
use Rattle.std.proofs.lemmas.List.{get_or_default}
use Rattle.std.proofs.lemmas.List.Elements.{All-cons, All-head, All-nil, All-tail}
use Rattle.frame_fields.specs.Field.{key_row_parts, name}
use Rattle.frame_fields.specs.declared.keys.KeyDigest.{KeyDigest}
use Rattle.meta_types.specs.Name.{IsName}
use Rattle.meta_types.specs.Order.{bytes_cmp}
use Rattle.meta_store.specs.Kept.{without_row}
use Rattle.meta_store.proofs.Forgetting.{first_only, none_out}
use Rattle.meta_store.proofs.Kept.{IsNamed, bytes_total}
use Rattle.meta_store.proofs.Maps.{before_all, find_below, rest_sorted}
use Rattle.hash_tree.proofs.Steps.{one_more}
use Rattle.hash_tree.specs.Kept.{IsAbsentAt, IsAt}
use Rattle.hash_tree.specs.Tree.{Digest, OwnRows, text_of}

abbrev parts : List KeyDigest → OwnRows
parts rows = map key_row_parts rows

-- the key stands after each row before this place
abbrev pub IsPast : List ℕ → List KeyDigest → ℕ → Type 0
IsPast key rows place = (k : ℕ) (d : KeyDigest) → k < place → bytes_cmp key (get_or rows k d).key ≡ Greater

put_over : (key : List ℕ) (rows : List KeyDigest) (place : ℕ) → IsPast key rows place → place < length rows → (row : KeyDigest) → row ≡ get_or rows place row → bytes_cmp key row.key ≡ Equal → (digest : Digest)
    → put bytes_cmp key digest (parts rows) ≡ parts (slice_set rows place (record { key = row.key; digest = digest }))
put_over key [] place past lt row is tied digest = absurd (omega arith)
put_over key (x ∷ xs) zero past lt row is tied digest =
    ap (λ r. by_order r ((key, digest) ∷ parts (x ∷ xs)) ((x.key, digest) ∷ parts xs) ((x.key, x.digest) ∷ put bytes_cmp key digest (parts xs))) (ap (λ (y : KeyDigest). bytes_cmp key y.key) (sym is) ∙ tied)
    ∙ ap (λ (y : KeyDigest). (y.key, digest) ∷ parts xs) (sym is)
put_over key (x ∷ xs) (suc place) past lt row is tied digest =
    ap (λ r. by_order r ((key, digest) ∷ parts (x ∷ xs)) ((x.key, digest) ∷ parts xs) ((x.key, x.digest) ∷ put bytes_cmp key digest (parts xs))) (past 0 x (omega arith))
    ∙ ap (λ ys. (x.key, x.digest) ∷ ys) (put_over key xs place (λ k d before. past (suc k) d (omega arith)) (omega arith) row is tied digest)

left_out : (key : List ℕ) (rows : List KeyDigest) (place : ℕ) → T (is_sorted bytes_cmp (parts rows)) → IsPast key rows place → place < length rows → (row : KeyDigest) → row ≡ get_or rows place row → bytes_cmp key row.key ≡ Equal
    → without_row key (parts rows) ≡ parts (remove rows place)
left_out key [] place sorted past lt row is tied = absurd (omega arith)
left_out key (x ∷ xs) zero sorted past lt row is tied =
    let here : bytes_cmp key x.key ≡ Equal = ap (λ (y : KeyDigest). bytes_cmp key y.key) (sym is) ∙ tied in
    ap (λ r. cond (not (is_eq r)) ((x.key, x.digest) ∷ without_row key (parts xs)) (without_row key (parts xs))) here
    ∙ none_out bytes_cmp key (parts xs) (first_only bytes_cmp bytes_total key (x.key, x.digest) (parts xs) sorted here)
left_out key (x ∷ xs) (suc place) sorted past lt row is tied =
    ap (λ r. cond (not (is_eq r)) ((x.key, x.digest) ∷ without_row key (parts xs)) (without_row key (parts xs))) (past 0 x (omega arith))
    ∙ ap (λ ys. (x.key, x.digest) ∷ ys) (left_out key xs place (rest_sorted bytes_cmp bytes_total (x.key, x.digest) (parts xs) sorted) (λ k d before. past (suc k) d (omega arith)) (omega arith) row is tied)

pub at_place : (key : List ℕ) (rows : List KeyDigest) (place : ℕ) (here : KeyDigest) → T (is_sorted bytes_cmp (parts rows)) → IsPast key rows place → place < length rows → here ≡ get_or rows place here → bytes_cmp key here.key ≡ Equal → IsAt key rows place
at_place key rows place here sorted past lt is tied = record {
  within = lt;
  replaced = λ row at digest.
      let same : here ≡ row = is ∙ get_or_default rows place here row lt ∙ sym at in
      put_over key rows place past lt row at (ap (λ (y : KeyDigest). bytes_cmp key y.key) (sym same) ∙ tied) digest;
  removed = left_out key rows place sorted past lt here is tied;
}

put_between : (key : List ℕ) (rows : List KeyDigest) (place : ℕ) → IsPast key rows place → place ≤ length rows → (place < length rows → (row : KeyDigest) → row ≡ get_or rows place row → bytes_cmp key row.key ≡ Less) → (digest : Digest)
    → put bytes_cmp key digest (parts rows) ≡ parts (insert rows place (record { key = key; digest = digest }))
put_between key [] zero past le stops digest = refl
put_between key [] (suc place) past le stops digest = absurd (omega arith)
put_between key (x ∷ xs) zero past le stops digest =
    ap (λ r. by_order r ((key, digest) ∷ parts (x ∷ xs)) ((x.key, digest) ∷ parts xs) ((x.key, x.digest) ∷ put bytes_cmp key digest (parts xs))) (stops (omega arith) x refl)
put_between key (x ∷ xs) (suc place) past le stops digest =
    ap (λ r. by_order r ((key, digest) ∷ parts (x ∷ xs)) ((x.key, digest) ∷ parts xs) ((x.key, x.digest) ∷ put bytes_cmp key digest (parts xs))) (past 0 x (omega arith))
    ∙ ap (λ ys. (x.key, x.digest) ∷ ys) (put_between key xs place (λ k d before. past (suc k) d (omega arith)) (omega arith) (λ lt row is. stops (omega arith) row is) digest)

not_found : (key : List ℕ) (rows : List KeyDigest) (place : ℕ) → T (is_sorted bytes_cmp (parts rows)) → IsPast key rows place → (place < length rows → (row : KeyDigest) → row ≡ get_or rows place row → bytes_cmp key row.key ≡ Less) → find bytes_cmp key (parts rows) ≡ None
not_found key [] place sorted past stops = refl
not_found key (x ∷ xs) zero sorted past stops =
    find_below bytes_cmp key (parts (x ∷ xs)) (before_all bytes_cmp bytes_total key x.digest (x.key, x.digest) (parts xs) sorted (stops (omega arith) x refl))
not_found key (x ∷ xs) (suc place) sorted past stops =
    ap (λ r. cond (is_eq r) (Some x.digest) (find bytes_cmp key (parts xs))) (past 0 x (omega arith))
    ∙ not_found key xs place (rest_sorted bytes_cmp bytes_total (x.key, x.digest) (parts xs) sorted) (λ k d before. past (suc k) d (omega arith)) (λ lt row is. stops (omega arith) row is)

absent_by : (key : List ℕ) (rows : List KeyDigest) (place : ℕ) → T (is_sorted bytes_cmp (parts rows)) → IsPast key rows place → place ≤ length rows → (place < length rows → (row : KeyDigest) → row ≡ get_or rows place row → bytes_cmp key row.key ≡ Less) → IsAbsentAt key rows place
absent_by key rows place sorted past le stops = record {
  within = le;
  inserted = put_between key rows place past le stops;
  absent = not_found key rows place sorted past stops;
}

pub absent_before : (key : List ℕ) (rows : List KeyDigest) (place : ℕ) (here : KeyDigest) → T (is_sorted bytes_cmp (parts rows)) → IsPast key rows place → place < length rows → here ≡ get_or rows place here → bytes_cmp key here.key ≡ Less → IsAbsentAt key rows place
absent_before key rows place here sorted past lt is less =
    absent_by key rows place sorted past (omega arith)
    (λ in_range row at. ap (λ (y : KeyDigest). bytes_cmp key y.key) (at ∙ get_or_default rows place row here lt ∙ sym is) ∙ less)

pub absent_behind : (key : List ℕ) (rows : List KeyDigest) (place : ℕ) → T (is_sorted bytes_cmp (parts rows)) → IsPast key rows place → place ≡ length rows → IsAbsentAt key rows place
absent_behind key rows place sorted past all =
    absent_by key rows place sorted past (omega arith) (λ lt row is. absurd (omega arith))

-- ---- all rows

pub listed_parts : (rows : List KeyDigest) → rows ≡ map (λ row. record { key = row.0; digest = row.1 }) (parts rows)
listed_parts [] = refl
listed_parts (row ∷ rows) = ap (λ xs. row ∷ xs) (listed_parts rows)

pub named_parts : (rows : List KeyDigest) → All IsNamed (parts rows) → All (λ row. IsName 256 row.key) rows
named_parts [] all = All-nil (λ row. IsName 256 row.key)
named_parts (row ∷ rows) all = All-cons (λ row. IsName 256 row.key) row rows (All-head IsNamed (row.key, row.digest) (parts rows) all) (named_parts rows (All-tail IsNamed (row.key, row.digest) (parts rows) all))

abbrev row_text : KeyDigest → List ℕ
row_text row = (name 1 256).spell row.key ++ row.digest

text_of_rows : (rows : List KeyDigest) → text_of (parts rows) ≡ flat_map row_text rows
unfolding text_of
text_of_rows [] = refl
text_of_rows (row ∷ rows) = ap (λ bytes. row_text row ++ bytes) (text_of_rows rows)

-- one row more is hashed
pub text_more : (rows : List KeyDigest) (i : ℕ) (row : KeyDigest) → i < length rows → row ≡ get_or rows i row → text_of (parts (take i rows)) ++ row_text row ≡ text_of (parts (take (i + 1) rows))
text_more rows i row lt is =
    ap (λ bytes. bytes ++ row_text row) (text_of_rows (take i rows)) ∙ one_more row_text rows i row lt is ∙ sym (text_of_rows (take (i + 1) rows))
