-- The leaves of a full prefix: what is found in them, and what a row put there makes of them.
use Rattle.std.proofs.Common.{◌≡◌, ◌≢◌, ℕ, Bool, true, false, cond, not, T, List, [], ◌∷◌, ◌++◌, map, All, Option, Some, None, Result, Ok, Err, OnOk, OnErr, refl, sym, ap, subst, ◌∙◌, ◌==◌}
use Rattle.std.specs.Bool.{passes}
use Rattle.std.specs.List.{flat_map}
use Rattle.std.specs.Option.{unwrap_or}
use Rattle.std.specs.Ordering.{is_eq, nat_cmp}
use Rattle.std.specs.declared.cmp.Ordering.{Ordering}
use Rattle.std.specs.declared.cmp.Ordering.TheVariants.{Less, Equal, Greater}
use Rattle.std.specs.Cmp.{nat_cmp_total, tied_itself}
use Rattle.std.specs.BTreeMap.{is_at}
use Rattle.std.specs.Map.{lookup}
use Rattle.std.specs.FinMap.{find, put, is_sorted, nat_cmp-IsAntisymmetric}
use Rattle.std.specs.FinMap.Entries.{by_order, find_tied, find-put, find-where_key, is_sorted-put, is_sorted-where_key, same_entries}
use Rattle.std.proofs.lemmas.Bool.{eq-eqb, eqb-true}
use Rattle.std.proofs.lemmas.List.Folds.{flat_map-map}
use Rattle.std.proofs.lemmas.List.Elements.{All-cons, All-filter, All-head, All-tail, All-nil}
use Rattle.meta_types.specs.Name.{IsName}
use Rattle.meta_types.specs.Order.{bytes_cmp}
use Rattle.meta_types.proofs.Comparing.{same_bytes}
use Rattle.meta_store.specs.Kept.{AreRows, without_row}
use Rattle.meta_store.proofs.Forgetting.{none_out, rows_without}
use Rattle.meta_store.proofs.Kept.{bytes_total, IsNamed}
use Rattle.meta_store.proofs.Maps.{All-put, below_rest, find_below, is_true, looked_up, rest_sorted}
use Rattle.sha2.specs.Sha256.{sha256}
use Rattle.frame_fields.specs.Field.{key_row_parts}
use Rattle.frame_fields.specs.declared.keys.KeyDigest.{KeyDigest}
use Rattle.hash_tree.specs.Rising.{do_keys_rise}
use Rattle.hash_tree.specs.Tree.{Digest, OwnRows, bucket, in_leaf, leaf_digest, leaf_of, text_of}
use Rattle.hash_tree.specs.Kept.{AreLeaves, IsLeaf, RowsByLeaf, in_order, joined, leaf_at}

abbrev Stands : ℕ → List ℕ × Digest → Type 0
Stands n row = leaf_of row.0 ≡ n

abbrev rows_of_all : RowsByLeaf → OwnRows
rows_of_all leaves = flat_map (λ leaf. leaf.1) leaves

pub by_result : {A E P Q C : Type 0} (r : Result A E) → OnOk r P → OnErr r Q → (P → C) → (Q → C) → C
by_result (Ok x) p q f g = f p
by_result (Err e) p q f g = g q

-- ---- rows in order

find_in_order : (q : List ℕ) (rows : OwnRows) → find bytes_cmp q (in_order rows) ≡ find bytes_cmp q rows
find_in_order q [] = refl
find_in_order q (row ∷ rows) =
    find-put bytes_cmp bytes_total q row.0 row.1 (in_order rows)
    ∙ ap (cond (is_eq (bytes_cmp q row.0)) (Some row.1)) (find_in_order q rows)

sorted_in_order : (rows : OwnRows) → T (is_sorted bytes_cmp (in_order rows))
sorted_in_order [] = tt
sorted_in_order (row ∷ rows) = is_sorted-put bytes_cmp bytes_total row.0 row.1 (in_order rows) (sorted_in_order rows)

-- ---- what is found

abbrev or_else : Option Digest → Option Digest → Option Digest
or_else (Some x) y = Some x
or_else None y = y

or_none : (x : Option Digest) → or_else x None ≡ x
or_none None = refl
or_none (Some x) = refl

find_append : (q : List ℕ) (xs ys : OwnRows) → find bytes_cmp q (xs ++ ys) ≡ or_else (find bytes_cmp q xs) (find bytes_cmp q ys)
find_append q [] ys = refl
find_append q (x ∷ xs) ys =
    elim (is_eq (bytes_cmp q x.0)) as (λ b. cond b (Some x.1) (find bytes_cmp q (xs ++ ys)) ≡ or_else (cond b (Some x.1) (find bytes_cmp q xs)) (find bytes_cmp q ys)) [
      | true ↦ refl
      | false ↦ find_append q xs ys
    ]

-- a leaf has no row of a key that stands in another
none_elsewhere : (q : List ℕ) (n : ℕ) (rows : OwnRows) → (leaf_of q ≡ n → ⊥) → All (Stands n) rows → find bytes_cmp q rows ≡ None
none_elsewhere q n [] apart all = refl
none_elsewhere q n (row ∷ rows) apart all =
    let later = none_elsewhere q n rows apart (All-tail (Stands n) row rows all) in
    elim (bytes_cmp q row.0) as (λ r. bytes_cmp q row.0 ≡ r → cond (is_eq r) (Some row.1) (find bytes_cmp q rows) ≡ None) [
      | Less ↦ λ e. later
      | Equal ↦ λ e. absurd (apart (ap leaf_of (same_bytes q row.0 e) ∙ All-head (Stands n) row rows all))
      | Greater ↦ λ e. later
    ] refl

apart_by : (m n : ℕ) (r : Ordering) → nat_cmp m n ≡ r → is_eq r ≡ false → m ≡ n → ⊥
apart_by m n r is differs e =
    let tied : Equal ≡ r = sym (tied_itself nat_cmp_total m) ∙ ap (nat_cmp m) e ∙ is in
    let clash : true ≡ false = ap is_eq tied ∙ differs in cc

find_leaves_in : (q : List ℕ) (leaves : RowsByLeaf) → T (is_sorted nat_cmp leaves) → All IsLeaf leaves → find bytes_cmp q (rows_of_all leaves) ≡ find bytes_cmp q (leaf_at (leaf_of q) leaves)
find_leaves_in q [] sorted each = refl
find_leaves_in q (leaf ∷ leaves) sorted each =
    let later = find_leaves_in q leaves (rest_sorted nat_cmp nat_cmp_total leaf leaves sorted) (All-tail IsLeaf leaf leaves each) in
    let own = (All-head IsLeaf leaf leaves each).own in
    let over : (r : Ordering) → nat_cmp (leaf_of q) leaf.0 ≡ r → is_eq r ≡ false → find bytes_cmp q (leaf.1 ++ rows_of_all leaves) ≡ find bytes_cmp q (leaf_at (leaf_of q) leaves) =
    λ r is differs. find_append q leaf.1 (rows_of_all leaves)
    ∙ ap (λ f. or_else f (find bytes_cmp q (rows_of_all leaves))) (none_elsewhere q leaf.0 leaf.1 (apart_by (leaf_of q) leaf.0 r is differs) own)
    ∙ later in
    elim (nat_cmp (leaf_of q) leaf.0) as (λ r. nat_cmp (leaf_of q) leaf.0 ≡ r
    → find bytes_cmp q (leaf.1 ++ rows_of_all leaves) ≡ find bytes_cmp q (unwrap_or (cond (is_eq r) (Some leaf.1) (find nat_cmp (leaf_of q) leaves)) [])) [
      | Less ↦ λ is. over Less is refl
      | Equal ↦ λ tied.
          let none : find nat_cmp (leaf_of q) leaves ≡ None =
          sym (find_tied nat_cmp nat_cmp_total (leaf_of q) leaf.0 tied leaves) ∙ find_below nat_cmp leaf.0 leaves (below_rest nat_cmp nat_cmp_total leaf leaves sorted) in
          find_append q leaf.1 (rows_of_all leaves)
          ∙ ap (or_else (find bytes_cmp q leaf.1)) (later ∙ ap (λ rows. find bytes_cmp q (unwrap_or rows [])) none)
          ∙ or_none (find bytes_cmp q leaf.1)
      | Greater ↦ λ is. over Greater is refl
    ] refl

-- what is found stands in the key's own leaf
pub find_joined : (q : List ℕ) (leaves : RowsByLeaf) → AreLeaves leaves → find bytes_cmp q (joined leaves) ≡ find bytes_cmp q (leaf_at (leaf_of q) leaves)
find_joined q leaves are =
    find_in_order q (rows_of_all leaves) ∙ find_leaves_in q leaves (passes (is_sorted nat_cmp leaves) are.rising) are.each

-- ---- the rows of one leaf

pub no_leaf : (n : ℕ) → IsLeaf (n, [])
no_leaf n = record {
  rows = record { rising = refl; named = All-nil IsNamed };
  own = All-nil (Stands n);
}

pub is_leaf_at : (n : ℕ) (leaves : RowsByLeaf) → All IsLeaf leaves → IsLeaf (n, leaf_at n leaves)
is_leaf_at n [] each = no_leaf n
is_leaf_at n (leaf ∷ leaves) each =
    let later = is_leaf_at n leaves (All-tail IsLeaf leaf leaves each) in
    elim (nat_cmp n leaf.0) as (λ r. nat_cmp n leaf.0 ≡ r → IsLeaf (n, unwrap_or (cond (is_eq r) (Some leaf.1) (find nat_cmp n leaves)) [])) [
      | Less ↦ λ is. later
      | Equal ↦ λ tied. subst (λ m. IsLeaf (m, leaf.1)) (sym (nat_cmp-IsAntisymmetric n leaf.0 tied)) (All-head IsLeaf leaf leaves each)
      | Greater ↦ λ is. later
    ] refl

itself : (n : ℕ) → (n == n) ≡ true
itself n = eq-eqb n n refl

cases_of_leaf : (q : List ℕ) (n : ℕ) (leaves : RowsByLeaf) (b : Bool) → (n == leaf_of q) ≡ b → All (Stands n) (leaf_at n leaves) → cond b (find bytes_cmp q (leaf_at (leaf_of q) leaves)) None ≡ find bytes_cmp q (leaf_at n leaves)
cases_of_leaf q n leaves true e own = ap (λ m. find bytes_cmp q (leaf_at m leaves)) (sym (eqb-true n (leaf_of q) e))
cases_of_leaf q n leaves false e own =
    sym (none_elsewhere q n (leaf_at n leaves) (λ same. let clash : true ≡ false = sym (itself n) ∙ ap (λ m. n == m) (sym same) ∙ e in cc) own)

-- a leaf keeps the keys that stand there
pub in_leaf_joined : (n : ℕ) (leaves : RowsByLeaf) → AreLeaves leaves → in_leaf n (joined leaves) ≡ leaf_at n leaves
in_leaf_joined n leaves are =
    let at : IsLeaf (n, leaf_at n leaves) = is_leaf_at n leaves are.each in
    let test : List ℕ → Bool = λ k. n == leaf_of k in
    same_entries bytes_cmp bytes_total same_bytes (in_leaf n (joined leaves)) (leaf_at n leaves)
    (is_sorted-where_key bytes_cmp test (joined leaves) (sorted_in_order (rows_of_all leaves)))
    (passes (is_sorted bytes_cmp (leaf_at n leaves)) at.rows.rising)
    (λ q. find-where_key bytes_cmp test q (λ x tied. ap test (sym (same_bytes q x tied))) (joined leaves)
    ∙ ap (λ f. cond (test q) f None) (find_joined q leaves are)
    ∙ cases_of_leaf q n leaves (test q) refl at.own)

abbrev pub listed_row : List ℕ × Digest → KeyDigest
listed_row row = record { key = row.0; digest = row.1 }

-- the rows of a bucket, as it lists them
pub listed_again : (rows : OwnRows) → map key_row_parts (map listed_row rows) ≡ rows
listed_again [] = refl
listed_again (row ∷ rows) = ap (λ xs. row ∷ xs) (listed_again rows)

-- the keys of a leaf rise as they are told
pub leaf_rises : (n : ℕ) (leaves : RowsByLeaf) (told : List KeyDigest) → told ≡ bucket (joined leaves) n → do_keys_rise told ≡ true
leaf_rises n leaves told is =
    let rows : OwnRows = in_leaf n (joined leaves) in
    is_true (do_keys_rise told)
    (subst (λ xs. T (is_sorted bytes_cmp xs)) (sym (ap (map key_row_parts) is ∙ listed_again rows))
    (is_sorted-where_key bytes_cmp (λ k. n == leaf_of k) (joined leaves) (sorted_in_order (rows_of_all leaves))))

pub leaf_found : (n : ℕ) (rows : OwnRows) (leaves : RowsByLeaf) → Some rows ≡ lookup (is_at (nat_cmp n)) leaves → leaf_at n leaves ≡ rows
leaf_found n rows leaves e = ap (λ x. unwrap_or x []) (sym (looked_up nat_cmp n leaves) ∙ sym e)

pub leaf_absent : (n : ℕ) (leaves : RowsByLeaf) → None ≡ lookup (is_at (nat_cmp n)) leaves → leaf_at n leaves ≡ []
leaf_absent n leaves e = ap (λ x. unwrap_or x []) (sym (looked_up nat_cmp n leaves) ∙ sym e)

module _ (n : ℕ) (leaves : RowsByLeaf) (are : AreLeaves leaves) where
  -- what the toolchain's map finds
  pub rows_found : (rows : OwnRows) → Some rows ≡ lookup (is_at (nat_cmp n)) leaves → in_leaf n (joined leaves) ≡ rows
  rows_found rows e = in_leaf_joined n leaves are ∙ leaf_found n rows leaves e

  pub rows_absent : None ≡ lookup (is_at (nat_cmp n)) leaves → in_leaf n (joined leaves) ≡ []
  rows_absent e = in_leaf_joined n leaves are ∙ leaf_absent n leaves e

  pub digest_found : (rows : OwnRows) → Some rows ≡ lookup (is_at (nat_cmp n)) leaves → sha256 (text_of rows) ≡ leaf_digest (joined leaves) n
  unfolding leaf_digest
  digest_found rows e = sym (ap (λ xs. sha256 (text_of xs)) (rows_found rows e))

  pub digest_absent : None ≡ lookup (is_at (nat_cmp n)) leaves → sha256 [] ≡ leaf_digest (joined leaves) n
  unfolding leaf_digest text_of
  digest_absent e = sym (ap (λ xs. sha256 (text_of xs)) (rows_absent e))

-- ---- leaves without a key

pub never_empty : (n : List ℕ) (d : Digest) (rows : OwnRows) → put bytes_cmp n d rows ≢ []
never_empty n d [] e = cc
never_empty n d (row ∷ rows) e = elim (bytes_cmp n row.0) as (λ c. by_order c ((n, d) ∷ row ∷ rows) ((row.0, d) ∷ rows) (row ∷ put bytes_cmp n d rows) ≡ [] → ⊥) [
  | Less ↦ λ is. cc
  | Equal ↦ λ is. cc
  | Greater ↦ λ is. cc
] e

-- the rows of these buckets, in order
abbrev pub rows_in : List OwnRows → OwnRows
rows_in buckets = in_order (flat_map (λ bucket. bucket) buckets)

pub rows_in_leaves : (leaves : RowsByLeaf) → rows_in (map (λ leaf. leaf.1) leaves) ≡ joined leaves
rows_in_leaves leaves = ap in_order (flat_map-map (λ bucket. bucket) (λ (leaf : ℕ × OwnRows). leaf.1) leaves)

pub empty_first : (bucket : OwnRows) (rest : List OwnRows) → bucket ≡ [] → rows_in (bucket ∷ rest) ≡ rows_in rest
empty_first bucket rest none = ap (λ rows. in_order (rows ++ flat_map (λ x. x) rest)) none

pub some_first : (bucket : OwnRows) (rest : List OwnRows) → bucket ≢ [] → rows_in (bucket ∷ rest) ≢ []
some_first [] rest some e = some refl
some_first (row ∷ rows) rest some e = never_empty row.0 row.1 (in_order (rows ++ flat_map (λ x. x) rest)) e

-- ---- what a row put there makes of them

each_put : (n : ℕ) (rows : OwnRows) → IsLeaf (n, rows) → (ls : RowsByLeaf) → All IsLeaf ls → All IsLeaf (put nat_cmp n rows ls)
each_put n rows is [] each = All-cons IsLeaf (n, rows) [] is (All-nil IsLeaf)
each_put n rows is (leaf ∷ ls) each =
    elim (nat_cmp n leaf.0) as (λ r. nat_cmp n leaf.0 ≡ r → All IsLeaf (by_order r ((n, rows) ∷ leaf ∷ ls) ((leaf.0, rows) ∷ ls) (leaf ∷ put nat_cmp n rows ls))) [
      | Less ↦ λ e. All-cons IsLeaf (n, rows) (leaf ∷ ls) is each
      | Equal ↦ λ tied. All-cons IsLeaf (leaf.0, rows) ls (subst (λ m. IsLeaf (m, rows)) (nat_cmp-IsAntisymmetric n leaf.0 tied) is) (All-tail IsLeaf leaf ls each)
      | Greater ↦ λ e. All-cons IsLeaf leaf (put nat_cmp n rows ls) (All-head IsLeaf leaf ls each) (each_put n rows is ls (All-tail IsLeaf leaf ls each))
    ] refl

pub rows_put : (k : List ℕ) (d : Digest) (rows : OwnRows) → AreRows rows → IsName 256 k → AreRows (put bytes_cmp k d rows)
rows_put k d rows are named = record {
  rising = is_true (is_sorted bytes_cmp (put bytes_cmp k d rows)) (is_sorted-put bytes_cmp bytes_total k d rows (passes (is_sorted bytes_cmp rows) are.rising));
  named = All-put bytes_cmp IsNamed k d rows are.named named (λ row is. is);
}

module _ (k : List ℕ) (d : Digest) (leaves : RowsByLeaf) (are : AreLeaves leaves) (named : IsName 256 k) where
  abbrev new_leaf : OwnRows
  new_leaf = put bytes_cmp k d (leaf_at (leaf_of k) leaves)

  abbrev new_leaves : RowsByLeaf
  new_leaves = put nat_cmp (leaf_of k) new_leaf leaves

  is_new_leaf : IsLeaf (leaf_of k, new_leaf)
  is_new_leaf =
      let n = leaf_of k in
      let old : IsLeaf (n, leaf_at n leaves) = is_leaf_at n leaves are.each in
      record {
        rows = rows_put k d (leaf_at n leaves) old.rows named;
        own = All-put bytes_cmp (Stands n) k d (leaf_at n leaves) old.own refl (λ row is. is);
      }

  pub leaves_put : AreLeaves new_leaves
  leaves_put = record {
    rising = is_true (is_sorted nat_cmp new_leaves) (is_sorted-put nat_cmp nat_cmp_total (leaf_of k) new_leaf leaves (passes (is_sorted nat_cmp leaves) are.rising));
    each = each_put (leaf_of k) new_leaf is_new_leaf leaves are.each;
  }

  found_apart : (q : List ℕ) (r : Ordering) → nat_cmp (leaf_of q) (leaf_of k) ≡ r → is_eq r ≡ false → (c : Ordering) → bytes_cmp q k ≡ c
      → find bytes_cmp q (leaf_at (leaf_of q) leaves) ≡ cond (is_eq c) (Some d) (find bytes_cmp q (leaf_at (leaf_of q) leaves))
  found_apart q r is differs Less e = refl
  found_apart q r is differs Equal e = absurd (apart_by (leaf_of q) (leaf_of k) r is differs (ap leaf_of (same_bytes q k e)))
  found_apart q r is differs Greater e = refl

  found_by : (q : List ℕ) (r : Ordering) → nat_cmp (leaf_of q) (leaf_of k) ≡ r
      → find bytes_cmp q (unwrap_or (cond (is_eq r) (Some new_leaf) (find nat_cmp (leaf_of q) leaves)) []) ≡ cond (is_eq (bytes_cmp q k)) (Some d) (find bytes_cmp q (leaf_at (leaf_of q) leaves))
  found_by q Equal tied =
      find-put bytes_cmp bytes_total q k d (leaf_at (leaf_of k) leaves)
      ∙ ap (λ m. cond (is_eq (bytes_cmp q k)) (Some d) (find bytes_cmp q (leaf_at m leaves))) (sym (nat_cmp-IsAntisymmetric (leaf_of q) (leaf_of k) tied))
  found_by q Less is = found_apart q Less is refl (bytes_cmp q k) refl
  found_by q Greater is = found_apart q Greater is refl (bytes_cmp q k) refl

  -- the rows of all leaves are those with the row put there
  pub joined_put : joined new_leaves ≡ put bytes_cmp k d (joined leaves)
  joined_put =
      same_entries bytes_cmp bytes_total same_bytes (joined new_leaves) (put bytes_cmp k d (joined leaves))
      (sorted_in_order (rows_of_all new_leaves))
      (is_sorted-put bytes_cmp bytes_total k d (joined leaves) (sorted_in_order (rows_of_all leaves)))
      (λ q. find_joined q new_leaves leaves_put
      ∙ ap (λ rows. find bytes_cmp q (unwrap_or rows [])) (find-put nat_cmp nat_cmp_total (leaf_of q) (leaf_of k) new_leaf leaves)
      ∙ found_by q (nat_cmp (leaf_of q) (leaf_of k)) refl
      ∙ ap (cond (is_eq (bytes_cmp q k)) (Some d)) (sym (find_joined q leaves are))
      ∙ sym (find-put bytes_cmp bytes_total q k d (joined leaves)))

  module _ (leaf : ℕ) (new : RowsByLeaf) (at : leaf ≡ leaf_of k) (is : new ≡ put nat_cmp leaf (put bytes_cmp k d (leaf_at leaf leaves)) leaves) where
    are_new : new ≡ new_leaves
    are_new = is ∙ ap (λ n. put nat_cmp n (put bytes_cmp k d (leaf_at n leaves)) leaves) at

    pub leaves_after : AreLeaves new
    leaves_after = subst AreLeaves (sym are_new) leaves_put

    pub joined_after : joined new ≡ put bytes_cmp k d (joined leaves)
    joined_after = ap joined are_new ∙ joined_put

-- ---- what is left of them without a row

module _ (k : List ℕ) (leaves : RowsByLeaf) (are : AreLeaves leaves) where
  abbrev other : List ℕ → Bool
  other q = not (is_eq (bytes_cmp k q))

  abbrev left_leaf : OwnRows
  left_leaf = without_row k (leaf_at (leaf_of k) leaves)

  abbrev left_leaves : RowsByLeaf
  left_leaves = put nat_cmp (leaf_of k) left_leaf leaves

  is_left_leaf : IsLeaf (leaf_of k, left_leaf)
  is_left_leaf =
      let n = leaf_of k in
      let old : IsLeaf (n, leaf_at n leaves) = is_leaf_at n leaves are.each in
      record {
        rows = rows_without k (leaf_at n leaves) old.rows;
        own = All-filter (λ row. other row.0) (Stands n) (leaf_at n leaves) old.own;
      }

  leaves_left : AreLeaves left_leaves
  leaves_left = record {
    rising = is_true (is_sorted nat_cmp left_leaves) (is_sorted-put nat_cmp nat_cmp_total (leaf_of k) left_leaf leaves (passes (is_sorted nat_cmp leaves) are.rising));
    each = each_put (leaf_of k) left_leaf is_left_leaf leaves are.each;
  }

  -- what is found without the key
  find_left : (q : List ℕ) (rows : OwnRows) → find bytes_cmp q (without_row k rows) ≡ cond (other q) (find bytes_cmp q rows) None
  find_left q rows = find-where_key bytes_cmp other q (λ x tied. ap other (sym (same_bytes q x tied))) rows

  is_other : (q : List ℕ) (r c : Ordering) → nat_cmp (leaf_of q) (leaf_of k) ≡ r → is_eq r ≡ false → bytes_cmp k q ≡ c → not (is_eq c) ≡ true
  is_other q r Less is differs e = refl
  is_other q r Equal is differs e = absurd (apart_by (leaf_of q) (leaf_of k) r is differs (sym (ap leaf_of (same_bytes k q e))))
  is_other q r Greater is differs e = refl

  left_by : (q : List ℕ) (r : Ordering) → nat_cmp (leaf_of q) (leaf_of k) ≡ r
      → find bytes_cmp q (unwrap_or (cond (is_eq r) (Some left_leaf) (find nat_cmp (leaf_of q) leaves)) []) ≡ cond (other q) (find bytes_cmp q (leaf_at (leaf_of q) leaves)) None
  left_by q Equal tied =
      find_left q (leaf_at (leaf_of k) leaves)
      ∙ ap (λ m. cond (other q) (find bytes_cmp q (leaf_at m leaves)) None) (sym (nat_cmp-IsAntisymmetric (leaf_of q) (leaf_of k) tied))
  left_by q Less is = ap (λ b. cond b (find bytes_cmp q (leaf_at (leaf_of q) leaves)) None) (sym (is_other q Less (bytes_cmp k q) is refl refl))
  left_by q Greater is = ap (λ b. cond b (find bytes_cmp q (leaf_at (leaf_of q) leaves)) None) (sym (is_other q Greater (bytes_cmp k q) is refl refl))

  -- the rows of all leaves are those without the row
  joined_left : joined left_leaves ≡ without_row k (joined leaves)
  joined_left =
      same_entries bytes_cmp bytes_total same_bytes (joined left_leaves) (without_row k (joined leaves))
      (sorted_in_order (rows_of_all left_leaves))
      (is_sorted-where_key bytes_cmp other (joined leaves) (sorted_in_order (rows_of_all leaves)))
      (λ q. find_joined q left_leaves leaves_left
      ∙ ap (λ rows. find bytes_cmp q (unwrap_or rows [])) (find-put nat_cmp nat_cmp_total (leaf_of q) (leaf_of k) left_leaf leaves)
      ∙ left_by q (nat_cmp (leaf_of q) (leaf_of k)) refl
      ∙ ap (λ f. cond (other q) f None) (sym (find_joined q leaves are))
      ∙ sym (find_left q (joined leaves)))

  module _ (leaf : ℕ) (at : leaf ≡ leaf_of k) where
    module _ (new : RowsByLeaf) (is : new ≡ put nat_cmp leaf (without_row k (leaf_at leaf leaves)) leaves) where
      are_left : new ≡ left_leaves
      are_left = is ∙ ap (λ n. put nat_cmp n (without_row k (leaf_at n leaves)) leaves) at

      pub leaves_left_after : AreLeaves new
      leaves_left_after = subst AreLeaves (sym are_left) leaves_left

      pub joined_left_after : joined new ≡ without_row k (joined leaves)
      joined_left_after = ap joined are_left ∙ joined_left

    -- a leaf that isn't kept has no row of the key
    pub none_left_out : None ≡ lookup (is_at (nat_cmp leaf)) leaves → joined leaves ≡ without_row k (joined leaves)
    none_left_out none =
        sym (none_out bytes_cmp k (joined leaves)
        (find_joined k leaves are ∙ ap (λ n. find bytes_cmp k (leaf_at n leaves)) (sym at) ∙ ap (find bytes_cmp k) (leaf_absent leaf leaves none)))
