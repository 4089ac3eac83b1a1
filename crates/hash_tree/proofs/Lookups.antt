-- What is found in the rows of a tree: below a full prefix, in a leaf, and among the roots.
use Rattle.std.proofs.Common.{◌≡◌, ℕ, Bool, true, false, cond, ◌||◌, List, [], ◌∷◌, map, All, Option, Some, None, inl, inr, ⊎_elim, refl, sym, ap, subst, ◌∙◌, ◌==◌}
use Rattle.std.specs.Prelude.{◌⊎◌}
use Rattle.std.specs.List.{dedup, dedup_from, filter, list_any}
use Rattle.std.specs.Option.{option_map}
use Rattle.std.specs.Ordering.{is_eq, ordering_then}
use Rattle.std.specs.declared.cmp.Ordering.TheVariants.{Less, Equal, Greater}
use Rattle.std.specs.FinMap.{find}
use Rattle.std.specs.FinMap.Entries.{find-where_key}
use Rattle.std.proofs.lemmas.Bool.{eq-eqb}
use Rattle.std.proofs.lemmas.List.Elements.{All-cons, All-head, All-nil, All-tail}
use Rattle.meta_types.specs.Name.{Prefix, Key}
use Rattle.meta_types.specs.Order.{bytes_cmp, key_cmp, prefix_cmp, prefix_eq}
use Rattle.meta_types.proofs.Comparing.{same_prefix}
use Rattle.frame_fields.specs.Field.{prefix_row_parts}
use Rattle.meta_store.specs.Table.{Table, prefixes_of}
use Rattle.meta_store.proofs.Keys.{same_key}
use Rattle.hash_tree.specs.Tree.{Digest, DigestRows, OwnRows, digest_rows, in_leaf, leaf_of, object_digest, own_rows, prefix_root, prefix_roots}
use Rattle.meta_types.proofs.Comparing.{same_bytes}

pub find_digested : (k : Key) (table : Table) → find key_cmp k (digest_rows table) ≡ option_map object_digest (find key_cmp k table)
find_digested k [] = refl
find_digested k (row ∷ rows) =
    elim (is_eq (key_cmp k row.0)) as (λ b. cond b (Some (object_digest row.1)) (find key_cmp k (digest_rows rows)) ≡ option_map object_digest (cond b (Some row.1) (find key_cmp k rows))) [
      | true ↦ refl
      | false ↦ find_digested k rows
    ]

-- a key is found among those of its full prefix
pub find_own : (k : Key) (rows : DigestRows) → find key_cmp k rows ≡ find bytes_cmp k.key (own_rows k.prefix rows)
find_own k [] = refl
find_own k (row ∷ rows) =
    let later = find_own k rows in
    elim (prefix_cmp k.prefix row.0.prefix) as (λ r. cond (is_eq (ordering_then r (bytes_cmp k.key row.0.key))) (Some row.1) (find key_cmp k rows)
    ≡ find bytes_cmp k.key (map (λ (x : Key × Digest). (x.0.key, x.1)) (cond (is_eq r) (row ∷ filter (λ x. prefix_eq k.prefix x.0.prefix) rows) (filter (λ x. prefix_eq k.prefix x.0.prefix) rows)))) [
      | Less ↦ later
      | Equal ↦ ap (cond (is_eq (bytes_cmp k.key row.0.key)) (Some row.1)) later
      | Greater ↦ later
    ]

-- and among those of its leaf
pub by_leaf : (q : List ℕ) (rows : OwnRows) → find bytes_cmp q (in_leaf (leaf_of q) rows) ≡ find bytes_cmp q rows
by_leaf q rows =
    find-where_key bytes_cmp (λ k. leaf_of q == leaf_of k) q (λ x tied. ap (λ k. leaf_of q == leaf_of k) (sym (same_bytes q x tied))) rows
    ∙ ap (λ b. cond b (find bytes_cmp q rows) None) (eq-eqb (leaf_of q) (leaf_of q) refl)

-- ---- among the roots

abbrev pub has : Prefix → List Prefix → Bool
has p ps = list_any (prefix_eq p) ps

shorter : (a b : Bool) → (a || b) ≡ (a || (a || b))
shorter true b = refl
shorter false b = refl

has_dedup_from : (p q : Prefix) (ps : List Prefix) → has p (dedup_from prefix_eq q ps) ≡ (prefix_eq p q || has p ps)
has_dedup_from p q [] = refl
has_dedup_from p q (x ∷ xs) =
    elim (prefix_cmp x q) as (λ r. prefix_cmp x q ≡ r → has p (cond (is_eq r) (dedup_from prefix_eq q xs) (q ∷ dedup_from prefix_eq x xs)) ≡ (prefix_eq p q || (prefix_eq p x || has p xs))) [
      | Less ↦ λ is. ap (λ b. prefix_eq p q || b) (has_dedup_from p x xs)
      | Equal ↦ λ tied. has_dedup_from p q xs ∙ shorter (prefix_eq p q) (has p xs) ∙ ap (λ z. prefix_eq p q || (prefix_eq p z || has p xs)) (sym (same_prefix x q tied))
      | Greater ↦ λ is. ap (λ b. prefix_eq p q || b) (has_dedup_from p x xs)
    ] refl

has_dedup : (p : Prefix) (ps : List Prefix) → has p (dedup prefix_eq ps) ≡ has p ps
has_dedup p [] = refl
has_dedup p (q ∷ ps) = has_dedup_from p q ps

found_among : (root : Prefix → Digest) (p : Prefix) (ps : List Prefix) → find prefix_cmp p (map (λ q. (q, root q)) ps) ≡ cond (has p ps) (Some (root p)) None
found_among root p [] = refl
found_among root p (q ∷ ps) =
    elim (prefix_cmp p q) as (λ r. prefix_cmp p q ≡ r → cond (is_eq r) (Some (root q)) (find prefix_cmp p (map (λ x. (x, root x)) ps)) ≡ cond (is_eq r || has p ps) (Some (root p)) None) [
      | Less ↦ λ is. found_among root p ps
      | Equal ↦ λ tied. ap (λ z. Some (root z)) (sym (same_prefix p q tied))
      | Greater ↦ λ is. found_among root p ps
    ] refl

-- whether a full prefix holds a key
abbrev pub holds_a_key : Prefix → DigestRows → Bool
holds_a_key p rows = has p (map (λ row. row.0.prefix) rows)

root_parts : (rows : DigestRows) (ps : List Prefix) → map prefix_row_parts (map (λ p. record { prefix = p; digest = prefix_root (own_rows p rows) }) ps) ≡ map (λ p. (p, prefix_root (own_rows p rows))) ps
root_parts rows [] = refl
root_parts rows (p ∷ ps) = ap (λ xs. (p, prefix_root (own_rows p rows)) ∷ xs) (root_parts rows ps)

-- among the roots a full prefix that holds a key is found with its root, and no other
pub root_found : (p : Prefix) (rows : DigestRows) → find prefix_cmp p (map prefix_row_parts (prefix_roots rows)) ≡ cond (holds_a_key p rows) (Some (prefix_root (own_rows p rows))) None
root_found p rows =
    ap (find prefix_cmp p) (root_parts rows (prefixes_of rows))
    ∙ found_among (λ q. prefix_root (own_rows q rows)) p (prefixes_of rows)
    ∙ ap (λ b. cond b (Some (prefix_root (own_rows p rows))) None) (has_dedup p (map (λ row. row.0.prefix) rows))

pub no_own_rows : (p : Prefix) (rows : DigestRows) → holds_a_key p rows ≡ false → own_rows p rows ≡ []
no_own_rows p [] none = refl
no_own_rows p (row ∷ rows) none =
    elim (prefix_eq p row.0.prefix) as (λ b. (b || holds_a_key p rows) ≡ false → map {B = List ℕ × Digest} (λ (x : Key × Digest). (x.0.key, x.1)) (cond b (row ∷ filter (λ x. prefix_eq p x.0.prefix) rows) (filter (λ x. prefix_eq p x.0.prefix) rows)) ≡ []) [
      | true ↦ λ e. absurd (cc)
      | false ↦ λ e. no_own_rows p rows e
    ] none

-- ---- what all rows keep

pub All-dedup : (P : Prefix → Type 0) (ps : List Prefix) → All P ps → All P (dedup prefix_eq ps)
All-dedup P [] all = all
All-dedup P (p ∷ ps) all = from p ps (All-head P p ps all) (All-tail P p ps all) where
  from : (q : Prefix) (qs : List Prefix) → P q → All P qs → All P (dedup_from prefix_eq q qs)
  from q [] is all = All-cons P q [] is (All-nil P)
  from q (x ∷ xs) is all =
      elim (prefix_eq x q) as (λ b. All P (cond b (dedup_from prefix_eq q xs) (q ∷ dedup_from prefix_eq x xs))) [
        | true ↦ from q xs is (All-tail P x xs all)
        | false ↦ All-cons P q (dedup_from prefix_eq x xs) is (from x xs (All-head P x xs all) (All-tail P x xs all))
      ]

-- what all rows say of their keys holds of a key that is found
pub of_found : {X : Type 0} (P : Key → Type 0) (k : Key) (x : X) (rows : List (Key × X)) → All (λ row. P row.0) rows → find key_cmp k rows ≡ Some x → P k
of_found P k x [] all e = absurd (cc)
of_found {X = X} P k x (row ∷ rows) all e =
    elim (key_cmp k row.0) as (λ r. key_cmp k row.0 ≡ r → cond (is_eq r) (Some row.1) (find key_cmp k rows) ≡ Some x → P k) [
      | Less ↦ λ is there. of_found P k x rows (All-tail (λ (y : Key × X). P y.0) row rows all) there
      | Equal ↦ λ tied there. subst P (sym (same_key k row.0 tied)) (All-head (λ (y : Key × X). P y.0) row rows all)
      | Greater ↦ λ is there. of_found P k x rows (All-tail (λ (y : Key × X). P y.0) row rows all) there
    ] refl e

-- ---- under every key

either_all : {X : Type 0} (P : X → Type 0) (C : Type 0) → ((x : X) → P x ⊎ C) → (xs : List X) → All P xs ⊎ C
either_all P C each [] = inl (All-nil P)
either_all P C each (x ∷ xs) =
    ⊎_elim (λ is. ⊎_elim (λ all. inl (All-cons P x xs is all)) inr (either_all P C each xs)) inr (each x)

-- what holds under each key, or something else does, and under those of neither table: it holds
-- under every key, or the other does
pub every_key : {X : Type 0} (here there : List (Key × X)) (P : Key → Type 0) (C : Type 0) → ((k : Key) → P k ⊎ C)
    → ((k : Key) → find key_cmp k here ≡ None → find key_cmp k there ≡ None → P k) → ((k : Key) → P k) ⊎ C
every_key {X = X} here there P C each absent =
    ⊎_elim
    (λ in_here. ⊎_elim
    (λ in_there. inl (λ k. by_cases k in_here in_there (find key_cmp k here) (find key_cmp k there) refl refl))
    inr
    (either_all (λ (row : Key × X). P row.0) C (λ row. each row.0) there))
    inr
    (either_all (λ (row : Key × X). P row.0) C (λ row. each row.0) here) where
      by_cases : (k : Key) → All (λ (row : Key × X). P row.0) here → All (λ (row : Key × X). P row.0) there → (x y : Option X) → find key_cmp k here ≡ x → find key_cmp k there ≡ y → P k
      by_cases k in_here in_there (Some x) y e f = of_found P k x here in_here e
      by_cases k in_here in_there None (Some y) e f = of_found P k y there in_there f
      by_cases k in_here in_there None None e f = absent k e f
