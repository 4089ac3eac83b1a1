-- A store after a key was forgotten: its parts, its table and how many keys there are.
use Rattle.std.proofs.Common.{◌≡◌, ◌≢◌, ℕ, ◌+◌, ◌≤◌, Bool, true, false, cond, not, T, List, [], ◌∷◌, ◌++◌, length, All, Option, Some, None, is_some, refl, sym, ap, subst, ◌∙◌, arith}
use Rattle.std.specs.Bool.{passes}
use Rattle.std.specs.List.{filter}
use Rattle.std.specs.Option.{unwrap_or}
use Rattle.std.specs.Ordering.{is_eq, is_lt, ordering_then}
use Rattle.std.specs.declared.cmp.Ordering.{Ordering}
use Rattle.std.specs.declared.cmp.Ordering.TheVariants.{Less, Equal, Greater}
use Rattle.std.specs.Cmp.{IsTotalOrder, tied_itself}
use Rattle.std.specs.BTreeMap.{is_at}
use Rattle.std.specs.Map.{lookup, remove_entry, set_value}
use Rattle.std.specs.FinMap.{find, put, is_sorted}
use Rattle.std.specs.FinMap.Entries.{below_all, by_order, find_tied, is_sorted-put, is_sorted-where_key, length_without}
use Rattle.std.proofs.lemmas.List.Elements.{All-filter}
use Rattle.meta_types.specs.Name.{Prefix, Key}
use Rattle.meta_types.specs.Order.{bytes_cmp, prefix_cmp, prefix_eq, key_cmp}
use Rattle.dvvset.specs.Object.{Entry}
use Rattle.meta_store.specs.Table.{Table, IsTable, with_former, with_object, without_object}
use Rattle.meta_store.specs.Kept.{RowsOf, PartsOf, AreParts, AreRows, Parts, Rows, rows_at, rows_under, table_of, with_rows, without_row}
use Rattle.meta_store.proofs.Keys.{key_total}
use Rattle.meta_store.proofs.Kept.{Filled, IsNamed, find_row, key_of, not_after, not_some, prefix_total, rows_absent, then_apart}
use Rattle.meta_store.proofs.Maps.{All-put, before_all, below_rest, find_below, is_true, looked_up, rest_sorted, second, written}
use Rattle.meta_store.proofs.Tables.{Held, Keyed}

-- ---- ordered maps

module _ {K X : Type 0} (R : K → K → Ordering) where
  abbrev pub without : K → List (K × X) → List (K × X)
  without q es = filter (λ e. not (is_eq (R q e.0))) es

  -- without a key that isn't found all is as it was
  pub none_out : (q : K) (es : List (K × X)) → find R q es ≡ None → without q es ≡ es
  none_out q [] none = refl
  none_out q (e ∷ es) none =
      elim (is_eq (R q e.0)) as (λ b. cond b (Some e.1) (find R q es) ≡ None → cond (not b) (e ∷ without q es) (without q es) ≡ e ∷ es) [
        | true ↦ λ is. absurd (not_some e.1 is)
        | false ↦ λ is. ap (λ xs. e ∷ xs) (none_out q es is)
      ] none

  -- what was written at a key goes with it
  pub removed_written : (q : K) (w : X) (es : List (K × X)) → remove_entry (is_at (R q)) (set_value (is_at (R q)) es w) ≡ remove_entry (is_at (R q)) es
  removed_written q w [] = refl
  removed_written q w (e ∷ es) =
      let after : List (K × X) = set_value (is_at (R q)) es w in
      elim (is_eq (R q e.0)) as (λ b. is_eq (R q e.0) ≡ b → remove_entry (is_at (R q)) (cond b ((e.0, w) ∷ es) (e ∷ after)) ≡ cond b es (e ∷ remove_entry (is_at (R q)) es)) [
        | true ↦ λ is. ap (λ b. cond b es ((e.0, w) ∷ remove_entry (is_at (R q)) es)) is
        | false ↦ λ is. ap (λ b. cond b after (e ∷ remove_entry (is_at (R q)) after)) is ∙ ap (λ xs. e ∷ xs) (removed_written q w es)
      ] refl

  module _ (o : IsTotalOrder R) where
    -- a key that ties with the first is none of the others
    pub first_only : (q : K) (e : K × X) (es : List (K × X)) → T (is_sorted R (e ∷ es)) → R q e.0 ≡ Equal → find R q es ≡ None
    first_only q e es sorted tied = sym (find_tied R o q e.0 tied es) ∙ find_below R e.0 es (below_rest R o e es sorted)

    -- what the toolchain's map holds after a removal
    pub removed : (q : K) (es : List (K × X)) → T (is_sorted R es) → remove_entry (is_at (R q)) es ≡ without q es
    removed q [] sorted = refl
    removed q (e ∷ es) sorted =
        let later = removed q es (rest_sorted R o e es sorted) in
        elim (R q e.0) as (λ r. R q e.0 ≡ r → cond (is_eq r) es (e ∷ remove_entry (is_at (R q)) es) ≡ cond (not (is_eq r)) (e ∷ without q es) (without q es)) [
          | Less ↦ λ less. ap (λ xs. e ∷ xs) later
          | Equal ↦ λ tied. sym (none_out q es (first_only q e es sorted tied))
          | Greater ↦ λ greater. ap (λ xs. e ∷ xs) later
        ] refl

    -- a new key that is put and taken out again
    pub taken_back : (k : K) (v : X) (es : List (K × X)) → find R k es ≡ None → without k (put R k v es) ≡ es
    taken_back k v [] none = ap (λ r. cond (not (is_eq r)) ((k, v) ∷ []) []) (tied_itself o k)
    taken_back k v (e ∷ es) none =
        let after : List (K × X) = put R k v es in
        let others : List (K × X) = without k (e ∷ es) in
        elim (R k e.0) as (λ r. R k e.0 ≡ r → cond (is_eq r) (Some e.1) (find R k es) ≡ None → without k (by_order r ((k, v) ∷ e ∷ es) ((e.0, v) ∷ es) (e ∷ after)) ≡ e ∷ es) [
          | Less ↦ λ less is. ap (λ r. cond (not (is_eq r)) ((k, v) ∷ others) others) (tied_itself o k) ∙ none_out k (e ∷ es) none
          | Equal ↦ λ tied is. absurd (not_some e.1 is)
          | Greater ↦ λ greater is. ap (λ r. cond (not (is_eq r)) (e ∷ without k after) (without k after)) greater ∙ ap (λ xs. e ∷ xs) (taken_back k v es is)
        ] refl none

    -- what stood under a key is put there again
    pub put_again : (k : K) (v w : X) (es : List (K × X)) → T (is_sorted R es) → find R k es ≡ Some w → put R k w (put R k v es) ≡ es
    put_again k v w [] sorted found = absurd (not_some w (sym found))
    put_again k v w (e ∷ es) sorted found =
        let after : List (K × X) = put R k v es in
        elim (R k e.0) as (λ r. R k e.0 ≡ r → cond (is_eq r) (Some e.1) (find R k es) ≡ Some w → put R k w (by_order r ((k, v) ∷ e ∷ es) ((e.0, v) ∷ es) (e ∷ after)) ≡ e ∷ es) [
          | Less ↦ λ less is. absurd (not_some w (sym is ∙ find_below R k es (second (is_lt (R k e.0)) (below_all R k es) (before_all R o k v e es sorted less))))
          | Equal ↦ λ tied is.
              ap (λ r. by_order r ((k, w) ∷ (e.0, v) ∷ es) ((e.0, w) ∷ es) ((e.0, v) ∷ put R k w es)) tied
              ∙ ap (λ x. (e.0, x) ∷ es) (let same : w ≡ e.1 = cc in same)
          | Greater ↦ λ greater is.
              ap (λ r. by_order r ((k, w) ∷ e ∷ after) ((e.0, w) ∷ after) (e ∷ put R k w after)) greater
              ∙ ap (λ xs. e ∷ xs) (put_again k v w es (rest_sorted R o e es sorted) is)
        ] refl found

-- what was held under any key is taken back
pub held_back : (k : Key) (o : List Entry) (table : Table) (former : Option (List Entry)) → T (is_sorted key_cmp table) → find key_cmp k table ≡ former → with_former k former (with_object k o table) ≡ table
held_back k o table None sorted is = taken_back key_cmp key_total k o table is
held_back k o table (Some before) sorted is = put_again key_cmp key_total k o before table sorted is

-- ---- the table of the parts without a row

-- at equal prefixes the second comparison decides
then_tied : (a b : Ordering) → a ≡ Equal → is_eq (ordering_then a b) ≡ is_eq b
then_tied a b tied = ap (λ r. is_eq (ordering_then r b)) tied

not_empty : {A : Type 0} (x : A) (xs : List A) → x ∷ xs ≢ []
not_empty x xs e = cc

module _ {X : Type 0} (p : Prefix) (n : List ℕ) where
  -- a part of another prefix stays
  kept_other : (q : Prefix) (rows : RowsOf X) (rest : List (Key × X)) → is_eq (prefix_cmp p q) ≡ false → without key_cmp (key_of p n) (rows_under q rows ++ rest) ≡ rows_under q rows ++ without key_cmp (key_of p n) rest
  kept_other q [] rest apart = refl
  kept_other q (row ∷ rows) rest apart =
      let later : List (Key × X) = without key_cmp (key_of p n) (rows_under q rows ++ rest) in
      ap (λ b. cond (not b) ((key_of q row.0, row.1) ∷ later) later) (then_apart (prefix_cmp p q) (bytes_cmp n row.0) apart)
      ∙ ap (λ xs. (key_of q row.0, row.1) ∷ xs) (kept_other q rows rest apart)

  -- in the part of its own prefix the key's own bytes decide
  left_within : (q : Prefix) (rows : RowsOf X) (rest : List (Key × X)) → prefix_cmp p q ≡ Equal → without key_cmp (key_of p n) (rows_under q rows ++ rest) ≡ rows_under q (without_row n rows) ++ without key_cmp (key_of p n) rest
  left_within q [] rest tied = refl
  left_within q (row ∷ rows) rest tied =
      let later : List (Key × X) = without key_cmp (key_of p n) (rows_under q rows ++ rest) in
      let left : List (Key × X) = without key_cmp (key_of p n) rest in
      ap (λ b. cond (not b) ((key_of q row.0, row.1) ∷ later) later) (then_tied (prefix_cmp p q) (bytes_cmp n row.0) tied)
      ∙ elim (is_eq (bytes_cmp n row.0)) as (λ b. cond (not b) ((key_of q row.0, row.1) ∷ later) later ≡ rows_under q (cond (not b) (row ∷ without_row n rows) (without_row n rows)) ++ left) [
        | true ↦ left_within q rows rest tied
        | false ↦ ap (λ xs. (key_of q row.0, row.1) ∷ xs) (left_within q rows rest tied)
      ]

  -- no row is left there: the part goes
  part_gone : (parts : PartsOf X) → T (is_sorted prefix_cmp parts) → without_row n (rows_at p parts) ≡ [] → table_of (without prefix_cmp p parts) ≡ without key_cmp (key_of p n) (table_of parts)
  part_gone [] sorted none = refl
  part_gone (part ∷ parts) sorted none =
      let after : PartsOf X = without prefix_cmp p parts in
      let in_order = rest_sorted prefix_cmp prefix_total part parts sorted in
      elim (prefix_cmp p part.0) as (λ r. prefix_cmp p part.0 ≡ r → without_row n (unwrap_or (cond (is_eq r) (Some part.1) (find prefix_cmp p parts)) []) ≡ []
      → table_of (cond (not (is_eq r)) (part ∷ after) after) ≡ without key_cmp (key_of p n) (rows_under part.0 part.1 ++ table_of parts)) [
        | Less ↦ λ less is. ap (λ xs. rows_under part.0 part.1 ++ xs) (part_gone parts in_order is) ∙ sym (kept_other part.0 part.1 (table_of parts) (ap is_eq less))
        | Equal ↦ λ tied is.
            part_gone parts in_order (ap (λ rows. without_row n (unwrap_or rows [])) (first_only prefix_cmp prefix_total p part parts sorted tied))
            ∙ ap (λ rows. rows_under part.0 rows ++ without key_cmp (key_of p n) (table_of parts)) (sym is)
            ∙ sym (left_within part.0 part.1 (table_of parts) tied)
        | Greater ↦ λ greater is. ap (λ xs. rows_under part.0 part.1 ++ xs) (part_gone parts in_order is) ∙ sym (kept_other part.0 part.1 (table_of parts) (ap is_eq greater))
      ] refl none

  -- the part has the rows that are left
  part_left : (rows : RowsOf X) (parts : PartsOf X) → T (is_sorted prefix_cmp parts) → find prefix_cmp p parts ≡ Some rows → table_of (put prefix_cmp p (without_row n rows) parts) ≡ without key_cmp (key_of p n) (table_of parts)
  part_left rows [] sorted found = absurd (not_some rows (sym found))
  part_left rows (part ∷ parts) sorted found =
      let new : RowsOf X = without_row n rows in
      let in_order = rest_sorted prefix_cmp prefix_total part parts sorted in
      elim (prefix_cmp p part.0) as (λ r. prefix_cmp p part.0 ≡ r → cond (is_eq r) (Some part.1) (find prefix_cmp p parts) ≡ Some rows
      → table_of (by_order r ((p, new) ∷ part ∷ parts) ((part.0, new) ∷ parts) (part ∷ put prefix_cmp p new parts)) ≡ without key_cmp (key_of p n) (rows_under part.0 part.1 ++ table_of parts)) [
        | Less ↦ λ less is. absurd (not_some rows (sym is ∙ not_after p part parts (before_all prefix_cmp prefix_total p [] part parts sorted less)))
        | Equal ↦ λ tied is.
            let same : rows ≡ part.1 = cc in
            let absent : find key_cmp (key_of p n) (table_of parts) ≡ None =
            find_row (key_of p n) parts in_order ∙ ap (λ x. find bytes_cmp n (unwrap_or x [])) (first_only prefix_cmp prefix_total p part parts sorted tied) in
            ap (λ xs. rows_under part.0 (without_row n xs) ++ table_of parts) same
            ∙ ap (λ xs. rows_under part.0 (without_row n part.1) ++ xs) (sym (none_out key_cmp (key_of p n) (table_of parts) absent))
            ∙ sym (left_within part.0 part.1 (table_of parts) tied)
        | Greater ↦ λ greater is. ap (λ xs. rows_under part.0 part.1 ++ xs) (part_left rows parts in_order is) ∙ sym (kept_other part.0 part.1 (table_of parts) (ap is_eq greater))
      ] refl found

  by_left : (parts : PartsOf X) (found : Option (RowsOf X)) (new : RowsOf X) → T (is_sorted prefix_cmp parts) → find prefix_cmp p parts ≡ found → without_row n (unwrap_or found []) ≡ new → table_of (with_rows p new parts) ≡ without key_cmp (key_of p n) (table_of parts)
  by_left parts found [] sorted is none = part_gone parts sorted (ap (λ x. without_row n (unwrap_or x [])) is ∙ none)
  by_left parts None (row ∷ rows) sorted is left = cc
  by_left parts (Some before) (row ∷ rows) sorted is left = ap (λ new. table_of (put prefix_cmp p new parts)) (sym left) ∙ part_left before parts sorted is

  pub table_without : (parts : PartsOf X) → T (is_sorted prefix_cmp parts) → table_of (with_rows p (without_row n (rows_at p parts)) parts) ≡ without key_cmp (key_of p n) (table_of parts)
  table_without parts sorted = by_left parts (find prefix_cmp p parts) (without_row n (rows_at p parts)) sorted refl refl

  -- ---- what the parts are then

  pub part_absent : (parts : PartsOf X) → None ≡ lookup (is_at (prefix_cmp p)) parts → parts ≡ with_rows p (without_row n (rows_at p parts)) parts
  part_absent parts none =
      sym (none_out prefix_cmp p parts (sym (looked_up prefix_cmp p parts) ∙ sym none))
      ∙ ap (λ rows. with_rows p (without_row n rows) parts) (sym (rows_absent p parts none))

  pub part_emptied : (rows : RowsOf X) (parts : PartsOf X) → T (is_sorted prefix_cmp parts) → length rows ≡ 0 → remove_entry (is_at (prefix_cmp p)) (set_value (is_at (prefix_cmp p)) parts rows) ≡ with_rows p rows parts
  part_emptied [] parts sorted none = removed_written prefix_cmp p [] parts ∙ removed prefix_cmp prefix_total p parts sorted
  part_emptied (row ∷ rows) parts sorted none = absurd (omega (arith, none))

  pub part_lessened : (before rows : RowsOf X) (parts : PartsOf X) → T (is_sorted prefix_cmp parts) → find prefix_cmp p parts ≡ Some before → length rows ≢ 0 → set_value (is_at (prefix_cmp p)) parts rows ≡ with_rows p rows parts
  part_lessened before [] parts sorted found some = absurd (some refl)
  part_lessened before (row ∷ rows) parts sorted found some = written prefix_cmp prefix_total p before (row ∷ rows) parts sorted found

module _ {X : Type 0} (p : Prefix) (parts : PartsOf X) (sorted : T (is_sorted prefix_cmp parts)) where
  pub rises_with : (rows : RowsOf X) → T (is_sorted prefix_cmp (with_rows p rows parts))
  rises_with [] = is_sorted-where_key prefix_cmp (λ q. not (prefix_eq p q)) parts sorted
  rises_with (row ∷ rows) = is_sorted-put prefix_cmp prefix_total p (row ∷ rows) parts sorted

  pub filled_with : All Filled parts → (rows : RowsOf X) → All Filled (with_rows p rows parts)
  filled_with filled [] = All-filter (λ part. not (prefix_eq p part.0)) Filled parts filled
  filled_with filled (row ∷ rows) = All-put prefix_cmp Filled p (row ∷ rows) parts filled (not_empty row rows) (λ part is. not_empty row rows)

-- ---- a store

fewer : (b : Bool) (m n : ℕ) → cond b 1 0 + m ≡ n → n ≤ 8192 → m ≤ 8192
fewer true m n e few = omega (arith, e, few)
fewer false m n e few = omega (arith, e, few)

pub rows_without : {X : Type 0} (n : List ℕ) (rows : RowsOf X) → AreRows rows → AreRows (without_row n rows)
rows_without n rows are = record {
  rising = is_true (is_sorted bytes_cmp (without_row n rows)) (is_sorted-where_key bytes_cmp (λ m. not (is_eq (bytes_cmp n m))) rows (passes (is_sorted bytes_cmp rows) are.rising));
  named = All-filter (λ row. not (is_eq (bytes_cmp n row.0))) IsNamed rows are.named;
}

is_table : (k : Key) (table : Table) → IsTable table → IsTable (without_object k table)
is_table k table is =
    let sorted : T (is_sorted key_cmp table) = passes (is_sorted key_cmp table) is.rising in
    record {
      rising = is_true (is_sorted key_cmp (without_object k table)) (is_sorted-where_key key_cmp (λ l. not (is_eq (key_cmp k l))) table sorted);
      keys = All-filter (λ row. not (is_eq (key_cmp k row.0))) Keyed table is.keys;
      few = fewer (is_some (find key_cmp k table)) (length (without_object k table)) (length table) (length_without key_cmp key_total k table sorted) is.few;
      held = All-filter (λ row. not (is_eq (key_cmp k row.0))) Held table is.held;
    }

module _ (k : Key) (parts new : Parts) (are : AreParts parts) (e : new ≡ with_rows k.prefix (without_row k.key (rows_at k.prefix parts)) parts) where
  abbrev sorted : T (is_sorted prefix_cmp parts)
  sorted = passes (is_sorted prefix_cmp parts) are.rising

  pub table_forgotten : table_of new ≡ without_object k (table_of parts)
  table_forgotten = ap table_of e ∙ table_without k.prefix k.key parts sorted

  pub parts_forgotten : AreParts new
  parts_forgotten =
      let rows : Rows = without_row k.key (rows_at k.prefix parts) in
      record {
        rising = is_true (is_sorted prefix_cmp new) (subst (λ ps. T (is_sorted prefix_cmp ps)) (sym e) (rises_with k.prefix parts sorted rows));
        filled = subst (All Filled) (sym e) (filled_with k.prefix parts sorted are.filled rows);
        table = subst IsTable (sym table_forgotten) (is_table k (table_of parts) are.table);
      }

  pub length_forgotten : (b : Bool) → b ≡ is_some (find bytes_cmp k.key (rows_at k.prefix parts)) → cond b 1 0 + length (table_of new) ≡ length (table_of parts)
  length_forgotten b is =
      ap (λ found. cond found 1 0 + length (table_of new)) (is ∙ ap is_some (sym (find_row k parts sorted)))
      ∙ ap (λ rows. cond (is_some (find key_cmp k (table_of parts))) 1 0 + length rows) table_forgotten
      ∙ length_without key_cmp key_total k (table_of parts) (passes (is_sorted key_cmp (table_of parts)) are.table.rising)
