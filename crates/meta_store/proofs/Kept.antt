-- A table that is kept by full prefix: what is found in it, what a row put there makes of it, and its lists.
use Rattle.std.proofs.Common.{◌≡◌, ◌≢◌, ℕ, true, false, cond, T, List, [], ◌∷◌, ◌++◌, map, All, Option, Some, None, refl, sym, ap, subst, ◌∙◌}
use Rattle.std.specs.List.{dedup_from, filter}
use Rattle.std.specs.Option.{unwrap_or}
use Rattle.std.specs.Ordering.{is_eq, is_lt, ordering_then}
use Rattle.std.specs.declared.cmp.Ordering.{Ordering}
use Rattle.std.specs.declared.cmp.Ordering.TheVariants.{Less, Equal, Greater}
use Rattle.std.specs.Cmp.{IsTotalOrder, then_total, on_total, tied_itself}
use Rattle.std.specs.Cmp.Lexicographic.{nat_list_cmp_total}
use Rattle.std.specs.BTreeMap.{is_at}
use Rattle.std.specs.Map.{lookup}
use Rattle.std.specs.FinMap.{find, put, is_sorted}
use Rattle.std.specs.FinMap.Entries.{by_order, below_all, find_tied, same_entries}
use Rattle.std.proofs.lemmas.List.Elements.{All-head, All-tail}
use Rattle.meta_types.specs.Name.{Prefix, Key, IsName}
use Rattle.meta_types.specs.Order.{bytes_cmp, prefix_cmp, prefix_eq, key_cmp}
use Rattle.meta_types.proofs.Comparing.{same_prefix}
use Rattle.meta_store.specs.Table.{keys_under, prefixes_of}
use Rattle.meta_store.specs.Kept.{RowsOf, PartsOf, rows_under, rows_at, table_of}
use Rattle.meta_store.proofs.Maps.{before_all, below_rest, find_below, first, greater_back, is_less, looked_up, rest_sorted, second}

pub prefix_total : IsTotalOrder prefix_cmp
prefix_total = then_total (on_total (λ p. p.prefix) nat_list_cmp_total) (on_total (λ p. p.sub) nat_list_cmp_total)

pub bytes_total : IsTotalOrder bytes_cmp
bytes_total = nat_list_cmp_total

abbrev pub key_of : Prefix → List ℕ → Key
key_of prefix key = record { prefix = prefix; key = key }

filled_not : {A : Type 0} {P : Type 0} (xs : List A) → xs ≢ [] → xs ≡ [] → P
filled_not xs filled e = absurd (filled e)

-- unequal prefixes decide
pub then_apart : (a b : Ordering) → is_eq a ≡ false → is_eq (ordering_then a b) ≡ false
then_apart Less b e = refl
then_apart Equal b e = cc
then_apart Greater b e = refl

pub not_some : {A : Type 0} (x : A) → Some x ≡ None → ⊥
not_some x e = cc

module _ {X : Type 0} where
  abbrev pub Filled : Prefix × RowsOf X → Type 0
  Filled part = part.1 ≢ []

  abbrev pub IsNamed : List ℕ × X → Type 0
  IsNamed row = IsName 256 row.0

  -- ---- what is found

  abbrev or_else : Option X → Option X → Option X
  or_else (Some x) y = Some x
  or_else None y = y

  -- a part of another prefix holds no row of the key
  passed_over : (k : Key) (p : Prefix) (rows : RowsOf X) (rest : List (Key × X)) → is_eq (prefix_cmp k.prefix p) ≡ false → find key_cmp k (rows_under p rows ++ rest) ≡ find key_cmp k rest
  passed_over k p [] rest apart = refl
  passed_over k p (row ∷ rows) rest apart =
      ap (λ b. cond b (Some row.1) (find key_cmp k (rows_under p rows ++ rest))) (then_apart (prefix_cmp k.prefix p) (bytes_cmp k.key row.0) apart)
      ∙ passed_over k p rows rest apart

  -- in the part of its own prefix the key's own bytes decide
  found_here : (k : Key) (p : Prefix) (rows : RowsOf X) (rest : List (Key × X)) → prefix_cmp k.prefix p ≡ Equal → find key_cmp k (rows_under p rows ++ rest) ≡ or_else (find bytes_cmp k.key rows) (find key_cmp k rest)
  found_here k p [] rest tied = refl
  found_here k p (row ∷ rows) rest tied =
      ap (λ r. cond (is_eq (ordering_then r (bytes_cmp k.key row.0))) (Some row.1) (find key_cmp k (rows_under p rows ++ rest))) tied
      ∙ elim (is_eq (bytes_cmp k.key row.0)) as (λ b. cond b (Some row.1) (find key_cmp k (rows_under p rows ++ rest)) ≡ or_else (cond b (Some row.1) (find bytes_cmp k.key rows)) (find key_cmp k rest)) [
        | true ↦ refl
        | false ↦ found_here k p rows rest tied
      ]

  abbrev found_in : List ℕ → Option (RowsOf X) → Option X
  found_in key None = None
  found_in key (Some rows) = find bytes_cmp key rows

  or_none : (x : Option X) → or_else x None ≡ x
  or_none None = refl
  or_none (Some x) = refl

  pub find_part : (k : Key) (parts : PartsOf X) → T (is_sorted prefix_cmp parts) → find key_cmp k (table_of parts) ≡ found_in k.key (find prefix_cmp k.prefix parts)
  find_part k [] sorted = refl
  find_part k (part ∷ parts) sorted =
      let later : find key_cmp k (table_of parts) ≡ found_in k.key (find prefix_cmp k.prefix parts) = find_part k parts (rest_sorted prefix_cmp prefix_total part parts sorted) in
      elim (prefix_cmp k.prefix part.0) as (λ r. prefix_cmp k.prefix part.0 ≡ r → find key_cmp k (rows_under part.0 part.1 ++ table_of parts) ≡ found_in k.key (cond (is_eq r) (Some part.1) (find prefix_cmp k.prefix parts))) [
        | Less ↦ λ less. passed_over k part.0 part.1 (table_of parts) (ap is_eq less) ∙ later
        | Equal ↦ λ tied.
            let none : find prefix_cmp k.prefix parts ≡ None =
            sym (find_tied prefix_cmp prefix_total k.prefix part.0 tied parts) ∙ find_below prefix_cmp part.0 parts (below_rest prefix_cmp prefix_total part parts sorted) in
            found_here k part.0 part.1 (table_of parts) tied
            ∙ ap (or_else (find bytes_cmp k.key part.1)) (later ∙ ap (found_in k.key) none)
            ∙ or_none (find bytes_cmp k.key part.1)
        | Greater ↦ λ greater. passed_over k part.0 part.1 (table_of parts) (ap is_eq greater) ∙ later
      ] refl

  found_at : (key : List ℕ) (rows : Option (RowsOf X)) → found_in key rows ≡ find bytes_cmp key (unwrap_or rows [])
  found_at key None = refl
  found_at key (Some rows) = refl

  -- the object under a key is that of its row
  pub find_row : (k : Key) (parts : PartsOf X) → T (is_sorted prefix_cmp parts) → find key_cmp k (table_of parts) ≡ find bytes_cmp k.key (rows_at k.prefix parts)
  find_row k parts sorted = find_part k parts sorted ∙ found_at k.key (find prefix_cmp k.prefix parts)

  -- the rows that the toolchain's map finds
  pub rows_found : (p : Prefix) (rows : RowsOf X) (parts : PartsOf X) → Some rows ≡ lookup (is_at (prefix_cmp p)) parts → rows_at p parts ≡ rows
  rows_found p rows parts e = ap (λ x. unwrap_or x []) (sym (looked_up prefix_cmp p parts) ∙ sym e)

  pub rows_absent : (p : Prefix) (parts : PartsOf X) → None ≡ lookup (is_at (prefix_cmp p)) parts → rows_at p parts ≡ []
  rows_absent p parts e = ap (λ x. unwrap_or x []) (sym (looked_up prefix_cmp p parts) ∙ sym e)

  -- ---- what a row put there makes of it

  -- what stands before all stands before the first, and isn't among the others
  less_first : (p q : Prefix) (rows : RowsOf X) (parts : PartsOf X) → T (below_all prefix_cmp p ((q, rows) ∷ parts)) → prefix_cmp p q ≡ Less
  less_first p q rows parts below = is_less (prefix_cmp p q) (first (is_lt (prefix_cmp p q)) (below_all prefix_cmp p parts) below)

  pub not_after : (p : Prefix) (part : Prefix × RowsOf X) (parts : PartsOf X) → T (below_all prefix_cmp p (part ∷ parts)) → find prefix_cmp p parts ≡ None
  not_after p part parts below = find_below prefix_cmp p parts (second (is_lt (prefix_cmp p part.0)) (below_all prefix_cmp p parts) below)

  module _ (p : Prefix) (n : List ℕ) (o : X) where
    -- a part of a lower prefix stays before it
    put_after : (q : Prefix) (rows : RowsOf X) (rest : List (Key × X)) → prefix_cmp p q ≡ Greater → put key_cmp (key_of p n) o (rows_under q rows ++ rest) ≡ rows_under q rows ++ put key_cmp (key_of p n) o rest
    put_after q [] rest greater = refl
    put_after q (row ∷ rows) rest greater =
        ap (λ r. by_order (ordering_then r (bytes_cmp n row.0)) ((key_of p n, o) ∷ (key_of q row.0, row.1) ∷ (rows_under q rows ++ rest)) ((key_of q row.0, o) ∷ (rows_under q rows ++ rest)) ((key_of q row.0, row.1) ∷ put key_cmp (key_of p n) o (rows_under q rows ++ rest))) greater
        ∙ ap (λ xs. (key_of q row.0, row.1) ∷ xs) (put_after q rows rest greater)

    -- before parts of greater prefixes it stands first
    put_first : (parts : PartsOf X) → T (below_all prefix_cmp p parts) → All Filled parts → put key_cmp (key_of p n) o (table_of parts) ≡ (key_of p n, o) ∷ table_of parts
    put_first [] below filled = refl
    put_first ((q, []) ∷ parts) below filled = filled_not {A = List ℕ × X} [] (All-head Filled (q, []) parts filled) refl
    put_first ((q, row ∷ rows) ∷ parts) below filled =
        ap (λ r. by_order (ordering_then r (bytes_cmp n row.0)) ((key_of p n, o) ∷ (key_of q row.0, row.1) ∷ (rows_under q rows ++ table_of parts)) ((key_of q row.0, o) ∷ (rows_under q rows ++ table_of parts)) ((key_of q row.0, row.1) ∷ put key_cmp (key_of p n) o (rows_under q rows ++ table_of parts))) (less_first p q (row ∷ rows) parts below)

    -- in its own part it goes by its own bytes
    put_within : (rows : RowsOf X) (rest : List (Key × X)) → put key_cmp (key_of p n) o rest ≡ (key_of p n, o) ∷ rest → put key_cmp (key_of p n) o (rows_under p rows ++ rest) ≡ rows_under p (put bytes_cmp n o rows) ++ rest
    put_within [] rest ahead = ahead
    put_within (row ∷ rows) rest ahead =
        ap (λ r. by_order (ordering_then r (bytes_cmp n row.0)) ((key_of p n, o) ∷ (key_of p row.0, row.1) ∷ (rows_under p rows ++ rest)) ((key_of p row.0, o) ∷ (rows_under p rows ++ rest)) ((key_of p row.0, row.1) ∷ put key_cmp (key_of p n) o (rows_under p rows ++ rest))) (tied_itself prefix_total p)
        ∙ elim (bytes_cmp n row.0) as (λ c. by_order c ((key_of p n, o) ∷ (key_of p row.0, row.1) ∷ (rows_under p rows ++ rest)) ((key_of p row.0, o) ∷ (rows_under p rows ++ rest)) ((key_of p row.0, row.1) ∷ put key_cmp (key_of p n) o (rows_under p rows ++ rest)) ≡ rows_under p (by_order c ((n, o) ∷ row ∷ rows) ((row.0, o) ∷ rows) (row ∷ put bytes_cmp n o rows)) ++ rest) [
          | Less ↦ refl
          | Equal ↦ refl
          | Greater ↦ ap (λ xs. (key_of p row.0, row.1) ∷ xs) (put_within rows rest ahead)
        ]

  abbrev with_first : Prefix → List ℕ → X → Prefix × RowsOf X → PartsOf X → Option (RowsOf X) → List (Key × X)
  with_first p n o part parts rows = table_of ((p, put bytes_cmp n o (unwrap_or rows [])) ∷ part ∷ parts)

  pub put_part : (p : Prefix) (n : List ℕ) (o : X) (parts : PartsOf X) → T (is_sorted prefix_cmp parts) → All Filled parts
      → table_of (put prefix_cmp p (put bytes_cmp n o (rows_at p parts)) parts) ≡ put key_cmp (key_of p n) o (table_of parts)
  put_part p n o [] sorted filled = refl
  put_part p n o (part ∷ parts) sorted filled =
      let rest = table_of parts in
      let new : Ordering → RowsOf X = λ r. put bytes_cmp n o (unwrap_or (cond (is_eq r) (Some part.1) (find prefix_cmp p parts)) []) in
      elim (prefix_cmp p part.0) as (λ r. prefix_cmp p part.0 ≡ r
      → table_of (by_order r ((p, new r) ∷ part ∷ parts) ((part.0, new r) ∷ parts) (part ∷ put prefix_cmp p (new r) parts)) ≡ put key_cmp (key_of p n) o (rows_under part.0 part.1 ++ rest)) [
        | Less ↦ λ less.
            let below : T (below_all prefix_cmp p (part ∷ parts)) = before_all prefix_cmp prefix_total p [] part parts sorted less in
            ap (with_first p n o part parts) (not_after p part parts below)
            ∙ sym (put_first p n o (part ∷ parts) below filled)
        | Equal ↦ λ tied.
            let same : part.0 ≡ p = sym (same_prefix p part.0 tied) in
            let stands_first : put key_cmp (key_of part.0 n) o rest ≡ (key_of part.0 n, o) ∷ rest = put_first part.0 n o parts (below_rest prefix_cmp prefix_total part parts sorted) (All-tail Filled part parts filled) in
            sym (put_within part.0 n o part.1 rest stands_first) ∙ ap (λ q. put key_cmp (key_of q n) o (rows_under part.0 part.1 ++ rest)) same
        | Greater ↦ λ greater.
            ap (λ xs. rows_under part.0 part.1 ++ xs) (put_part p n o parts (rest_sorted prefix_cmp prefix_total part parts sorted) (All-tail Filled part parts filled))
            ∙ sym (put_after p n o part.0 part.1 rest greater)
      ] refl

  -- ---- its lists

  abbrev pub own_keys : Prefix → RowsOf X → List Key
  own_keys p rows = map (λ row. record { prefix = p; key = row.0 }) rows

  -- keys of another prefix are left out
  left_out : (p q : Prefix) (rows : RowsOf X) (rest : List (Key × X)) → prefix_eq p q ≡ false → keys_under p (rows_under q rows ++ rest) ≡ keys_under p rest
  left_out p q [] rest apart = refl
  left_out p q (row ∷ rows) rest apart =
      let keys : List Key = keys_under p (rows_under q rows ++ rest) in
      ap (λ b. cond b (key_of q row.0 ∷ keys) keys) apart ∙ left_out p q rows rest apart

  -- those of the prefix are taken
  taken : (p : Prefix) (rows : RowsOf X) (rest : List (Key × X)) → keys_under p rest ≡ [] → keys_under p (rows_under p rows ++ rest) ≡ map (λ row. key_of p row.0) rows
  taken p [] rest none = none
  taken p (row ∷ rows) rest none =
      let keys : List Key = keys_under p (rows_under p rows ++ rest) in
      ap (λ r. cond (is_eq r) (key_of p row.0 ∷ keys) keys) (tied_itself prefix_total p) ∙ ap (λ xs. key_of p row.0 ∷ xs) (taken p rows rest none)

  -- a prefix that isn't found has no key
  no_keys : (p : Prefix) (parts : PartsOf X) → find prefix_cmp p parts ≡ None → keys_under p (table_of parts) ≡ []
  no_keys p [] e = refl
  no_keys p (part ∷ parts) e =
      elim (prefix_eq p part.0) as (λ b. prefix_eq p part.0 ≡ b → cond b (Some part.1) (find prefix_cmp p parts) ≡ None → keys_under p (rows_under part.0 part.1 ++ table_of parts) ≡ []) [
        | true ↦ λ is none. absurd (not_some part.1 none)
        | false ↦ λ is none. left_out p part.0 part.1 (table_of parts) is ∙ no_keys p parts none
      ] refl e

  pub listed : (p : Prefix) (parts : PartsOf X) → T (is_sorted prefix_cmp parts) → keys_under p (table_of parts) ≡ map (λ row. key_of p row.0) (rows_at p parts)
  listed p [] sorted = refl
  listed p (part ∷ parts) sorted =
      let later = listed p parts (rest_sorted prefix_cmp prefix_total part parts sorted) in
      elim (prefix_cmp p part.0) as (λ r. prefix_cmp p part.0 ≡ r → keys_under p (rows_under part.0 part.1 ++ table_of parts) ≡ map (λ row. key_of p row.0) (unwrap_or (cond (is_eq r) (Some part.1) (find prefix_cmp p parts)) [])) [
        | Less ↦ λ less. left_out p part.0 part.1 (table_of parts) (ap is_eq less) ∙ later
        | Equal ↦ λ tied.
            let none : find prefix_cmp p parts ≡ None =
            sym (find_tied prefix_cmp prefix_total p part.0 tied parts) ∙ find_below prefix_cmp part.0 parts (below_rest prefix_cmp prefix_total part parts sorted) in
            ap (λ q. keys_under p (rows_under q part.1 ++ table_of parts)) (sym (same_prefix p part.0 tied)) ∙ taken p part.1 (table_of parts) (no_keys p parts none)
        | Greater ↦ λ greater. left_out p part.0 part.1 (table_of parts) (ap is_eq greater) ∙ later
      ] refl

  abbrev prefix_of : Key × X → Prefix
  prefix_of row = row.0.prefix

  -- the rows of one prefix count once
  counted_once : (p : Prefix) (rows : RowsOf X) (rest : List (Key × X)) → dedup_from prefix_eq p (map prefix_of (rows_under p rows ++ rest)) ≡ dedup_from prefix_eq p (map prefix_of rest)
  counted_once p [] rest = refl
  counted_once p (row ∷ rows) rest =
      let others : List Prefix = dedup_from prefix_eq p (map prefix_of (rows_under p rows ++ rest)) in
      ap (λ r. cond (is_eq r) others (p ∷ dedup_from prefix_eq p (map prefix_of (rows_under p rows ++ rest)))) (tied_itself prefix_total p) ∙ counted_once p rows rest

  each_once : (q : Prefix) (parts : PartsOf X) → T (below_all prefix_cmp q parts) → T (is_sorted prefix_cmp parts) → All Filled parts → dedup_from prefix_eq q (map prefix_of (table_of parts)) ≡ q ∷ map (λ part. part.0) parts
  each_once q [] below sorted filled = refl
  each_once q ((p, []) ∷ parts) below sorted filled = filled_not {A = List ℕ × X} [] (All-head Filled (p, []) parts filled) refl
  each_once q ((p, row ∷ rows) ∷ parts) below sorted filled =
      let rest : List Prefix = map prefix_of (rows_under p rows ++ table_of parts) in
      ap (λ r. cond (is_eq r) (dedup_from prefix_eq q rest) (q ∷ dedup_from prefix_eq p rest)) (greater_back prefix_cmp prefix_total q p (less_first q p (row ∷ rows) parts below))
      ∙ ap (λ xs. q ∷ xs) (counted_once p rows (table_of parts)
      ∙ each_once p parts (below_rest prefix_cmp prefix_total (p, row ∷ rows) parts sorted) (rest_sorted prefix_cmp prefix_total (p, row ∷ rows) parts sorted) (All-tail Filled (p, row ∷ rows) parts filled))

  pub all_prefixes : (parts : PartsOf X) → T (is_sorted prefix_cmp parts) → All Filled parts → prefixes_of (table_of parts) ≡ map (λ part. part.0) parts
  all_prefixes [] sorted filled = refl
  all_prefixes ((p, []) ∷ parts) sorted filled = filled_not {A = List ℕ × X} [] (All-head Filled (p, []) parts filled) refl
  all_prefixes ((p, row ∷ rows) ∷ parts) sorted filled =
      counted_once p rows (table_of parts)
      ∙ each_once p parts (below_rest prefix_cmp prefix_total (p, row ∷ rows) parts sorted) (rest_sorted prefix_cmp prefix_total (p, row ∷ rows) parts sorted) (All-tail Filled (p, row ∷ rows) parts filled)

  -- ---- the rows of one full prefix

  abbrev pub rows_with : Prefix → List (Key × X) → RowsOf X
  rows_with p rows = map (λ row. (row.0.key, row.1)) (filter (λ row. prefix_eq p row.0.prefix) rows)

  -- rows of another prefix are left out
  pub rows_left_out : (p q : Prefix) (rows : RowsOf X) (rest : List (Key × X)) → prefix_eq p q ≡ false → rows_with p (rows_under q rows ++ rest) ≡ rows_with p rest
  rows_left_out p q [] rest apart = refl
  rows_left_out p q (row ∷ rows) rest apart =
      let others : List (Key × X) = rows_under q rows ++ rest in
      ap (λ b. map (λ r. (r.0.key, r.1)) (cond b ((record { prefix = q; key = row.0 }, row.1) ∷ filter (λ r. prefix_eq p r.0.prefix) others) (filter (λ r. prefix_eq p r.0.prefix) others))) apart
      ∙ rows_left_out p q rows rest apart

  -- those of the prefix are taken
  rows_taken : (p : Prefix) (rows : RowsOf X) (rest : List (Key × X)) → rows_with p rest ≡ [] → rows_with p (rows_under p rows ++ rest) ≡ rows
  rows_taken p [] rest none = none
  rows_taken p (row ∷ rows) rest none =
      let others : List (Key × X) = rows_under p rows ++ rest in
      ap (λ o. map (λ r. (r.0.key, r.1)) (cond (is_eq o) ((record { prefix = p; key = row.0 }, row.1) ∷ filter (λ r. prefix_eq p r.0.prefix) others) (filter (λ r. prefix_eq p r.0.prefix) others))) (tied_itself prefix_total p)
      ∙ ap (λ xs. row ∷ xs) (rows_taken p rows rest none)

  no_rows : (p : Prefix) (parts : PartsOf X) → find prefix_cmp p parts ≡ None → rows_with p (table_of parts) ≡ []
  no_rows p [] e = refl
  no_rows p (part ∷ parts) e =
      elim (prefix_eq p part.0) as (λ b. prefix_eq p part.0 ≡ b → cond b (Some part.1) (find prefix_cmp p parts) ≡ None → rows_with p (rows_under part.0 part.1 ++ table_of parts) ≡ []) [
        | true ↦ λ is none. absurd (not_some part.1 none)
        | false ↦ λ is none. rows_left_out p part.0 part.1 (table_of parts) is ∙ no_rows p parts none
      ] refl e

  pub own_part : (p : Prefix) (parts : PartsOf X) → T (is_sorted prefix_cmp parts) → rows_with p (table_of parts) ≡ rows_at p parts
  own_part p [] sorted = refl
  own_part p (part ∷ parts) sorted =
      let later = own_part p parts (rest_sorted prefix_cmp prefix_total part parts sorted) in
      elim (prefix_cmp p part.0) as (λ r. prefix_cmp p part.0 ≡ r → rows_with p (rows_under part.0 part.1 ++ table_of parts) ≡ unwrap_or (cond (is_eq r) (Some part.1) (find prefix_cmp p parts)) []) [
        | Less ↦ λ less. rows_left_out p part.0 part.1 (table_of parts) (ap is_eq less) ∙ later
        | Equal ↦ λ tied.
            let none : find prefix_cmp p parts ≡ None =
            sym (find_tied prefix_cmp prefix_total p part.0 tied parts) ∙ find_below prefix_cmp part.0 parts (below_rest prefix_cmp prefix_total part parts sorted) in
            ap (λ q. rows_with p (rows_under q part.1 ++ table_of parts)) (sym (same_prefix p part.0 tied)) ∙ rows_taken p part.1 (table_of parts) (no_rows p parts none)
        | Greater ↦ λ greater. rows_left_out p part.0 part.1 (table_of parts) (ap is_eq greater) ∙ later
      ] refl

  -- ---- a table is kept in one way

  found_filled : (p : Prefix) (parts : PartsOf X) → All Filled parts → (rows : RowsOf X) → find prefix_cmp p parts ≡ Some rows → rows ≢ []
  found_filled p [] filled rows e = absurd (not_some rows (sym e))
  found_filled p (part ∷ parts) filled rows e =
      elim (is_eq (prefix_cmp p part.0)) as (λ b. cond b (Some part.1) (find prefix_cmp p parts) ≡ Some rows → rows ≢ []) [
        | true ↦ λ is. subst (λ r. r ≢ []) (let same : part.1 ≡ rows = cc in same) (All-head Filled part parts filled)
        | false ↦ λ is. found_filled p parts (All-tail Filled part parts filled) rows is
      ] e

  same_found : (a b : Option (RowsOf X)) → ((rows : RowsOf X) → a ≡ Some rows → rows ≢ []) → ((rows : RowsOf X) → b ≡ Some rows → rows ≢ []) → unwrap_or a [] ≡ unwrap_or b [] → a ≡ b
  same_found None None left right e = refl
  same_found None (Some rows) left right e = absurd (right rows refl (sym e))
  same_found (Some rows) None left right e = absurd (left rows refl e)
  same_found (Some rows) (Some others) left right e = ap (λ x. Some x) e

  pub same_parts : (parts others : PartsOf X) → T (is_sorted prefix_cmp parts) → T (is_sorted prefix_cmp others) → All Filled parts → All Filled others → table_of parts ≡ table_of others → parts ≡ others
  same_parts parts others sorted other_sorted filled other_filled e =
      same_entries prefix_cmp prefix_total same_prefix parts others sorted other_sorted
      (λ p. same_found (find prefix_cmp p parts) (find prefix_cmp p others) (found_filled p parts filled) (found_filled p others other_filled)
      (sym (own_part p parts sorted) ∙ ap (rows_with p) e ∙ own_part p others other_sorted))
