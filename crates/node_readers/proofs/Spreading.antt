-- What is found in a table that is spread over bucket_count.
use Rattle.std.proofs.Common.{◌≡◌, ◌≢◌, ℕ, zero, suc, ◌<◌, ◌%◌, ◌==◌, true, false, cond, T, List, [], ◌∷◌, ◌++◌, All, Some, get_or, set, length, replicate, fold, refl, sym, ap, subst, ◌∙◌, arith}
use Rattle.std.specs.Ordering.{is_eq}
use Rattle.std.specs.declared.cmp.Ordering.TheVariants.{Less, Equal, Greater}
use Rattle.std.specs.FinMap.{find, put, is_sorted}
use Rattle.std.specs.FinMap.Entries.{find-put}
use Rattle.std.proofs.lemmas.Bool.{eqb-false, eqb-true}
use Rattle.std.proofs.lemmas.List.{append-nil, get_or-set_other, get_or-set_same, length-set}
use Rattle.std.proofs.lemmas.List.Elements.{All-cons, All-head, All-tail, All-nil}
use Rattle.meta_types.specs.Name.{IsName, Prefix, Key}
use Rattle.meta_types.specs.Order.{key_cmp}
use Rattle.dvvset.specs.Object.{Entry}
use Rattle.meta_store.specs.Table.{IsHeld, Table, with_object}
use Rattle.meta_store.specs.Kept.{Parts, Rows, rows_under, table_of}
use Rattle.meta_store.proofs.Keys.{key_total, same_key}
use Rattle.meta_store.proofs.Maps.{put_last}
use Rattle.node_readers.specs.Spread.{AreHeld, IsSpreadOf, Spread, bucket_at, bucket_of, bucket_count, with_row, with_spread}

blank : {X : Type 0} (n i : ℕ) (d : X) → get_or (replicate n d) i d ≡ d
blank zero i d = refl
blank (suc n) zero d = refl
blank (suc n) (suc i) d = blank n i d

-- bucket_count without rows hold the table without rows
pub spread_nothing : (n : ℕ) → IsSpreadOf [] (replicate n [])
spread_nothing n key = ap (find key_cmp key) (blank n (bucket_of key) [])

-- keys at different bucket_count are different
apart : (q k : Key) → bucket_of q ≢ bucket_of k → is_eq (key_cmp q k) ≡ false
apart q k other = elim (key_cmp q k) as (λ r. key_cmp q k ≡ r → is_eq r ≡ false) [
  | Less ↦ λ e. refl
  | Equal ↦ λ e. absurd (other (ap bucket_of (same_key q k e)))
  | Greater ↦ λ e. refl
] refl

-- what is found after an object was put under a key
pub find-with_spread : (k : Key) (o : List Entry) (s : Spread) → bucket_of k < length s → (q : Key)
    → find key_cmp q (bucket_at q (with_spread k o s)) ≡ cond (is_eq (key_cmp q k)) (Some o) (find key_cmp q (bucket_at q s))
find-with_spread k o s room q =
    let at = bucket_of q in
    let to = bucket_of k in
    let rows = with_object k o (bucket_at k s) in
    elim (at == to) as (λ b. (at == to) ≡ b → find key_cmp q (get_or (set s to rows) at []) ≡ cond (is_eq (key_cmp q k)) (Some o) (find key_cmp q (get_or s at []))) [
      | true ↦ λ e.
          let is : at ≡ to = eqb-true at to e in
          ap (λ n. find key_cmp q (get_or (set s to rows) n [])) is
          ∙ ap (find key_cmp q) (get_or-set_same s to rows [] room)
          ∙ find-put key_cmp key_total q k o (bucket_at k s)
          ∙ ap (λ n. cond (is_eq (key_cmp q k)) (Some o) (find key_cmp q (get_or s n []))) (sym is)
      | false ↦ λ e.
          let other : at ≢ to = λ is. eqb-false at to e is in
          ap (find key_cmp q) (get_or-set_other s to at rows [] other)
          ∙ sym (ap (λ b. cond b (Some o) (find key_cmp q (get_or s at []))) (apart q k other))
    ] refl

below_count : (n : ℕ) → n % 1024 < 1024
below_count n = omega arith

-- there is a bucket for each key
pub room_in : (k : Key) (s : Spread) → length s ≡ bucket_count → bucket_of k < length s
room_in k s whole = subst (λ n. bucket_of k < n) (sym whole) (below_count _)

pub whole_with : (k : Key) (o : List Entry) (s : Spread) → length (with_spread k o s) ≡ length s
whole_with k o s = length-set s (bucket_of k) (with_object k o (bucket_at k s))

-- putting an object under a key goes along with putting it there in the table
pub spread_on : (k : Key) (o : List Entry) (s : Spread) (table : Table) → bucket_of k < length s → IsSpreadOf table s
    → IsSpreadOf (with_object k o table) (with_spread k o s)
spread_on k o s table room is q =
    find-with_spread k o s room q ∙ ap (cond (is_eq (key_cmp q k)) (Some o)) (is q) ∙ sym (find-put key_cmp key_total q k o table)

-- a table that is filled in order is what it was filled with
pub refilled : (table rows : Table) → T (is_sorted key_cmp (table ++ rows)) → fold with_row table rows ≡ table ++ rows
refilled table [] sorted = sym (append-nil table)
refilled table (row ∷ rows) sorted =
    let e : put key_cmp row.0 row.1 table ++ rows ≡ table ++ row ∷ rows = put_last key_cmp key_total table row.0 row.1 rows sorted in
    refilled (put key_cmp row.0 row.1 table) rows (subst (λ t. T (is_sorted key_cmp t)) (sym e) sorted) ∙ e

-- ---- the rows of a store

abbrev pub AreNamed : Rows → Type 0
AreNamed rows = All (λ row. IsName 256 row.0) rows

abbrev pub HeldPart : Prefix × Rows → Type 0
HeldPart part = AreHeld part.1

abbrev HeldRow : Key × List Entry → Type 0
HeldRow row = IsHeld row.1

All-left : {A : Type 0} (P : A → Type 0) (xs ys : List A) → All P (xs ++ ys) → All P xs
All-left P [] ys all = All-nil P
All-left P (x ∷ xs) ys all = All-cons P x xs (All-head P x (xs ++ ys) all) (All-left P xs ys (All-tail P x (xs ++ ys) all))

All-right : {A : Type 0} (P : A → Type 0) (xs ys : List A) → All P (xs ++ ys) → All P ys
All-right P [] ys all = all
All-right P (x ∷ xs) ys all = All-right P xs ys (All-tail P x (xs ++ ys) all)

held_under : (p : Prefix) (rows : Rows) → All HeldRow (rows_under p rows) → AreHeld rows
held_under p [] all = All-nil (λ (row : List ℕ × List Entry). IsHeld row.1)
held_under p (row ∷ rows) all =
    All-cons (λ (r : List ℕ × List Entry). IsHeld r.1) row rows (All-head HeldRow (record { prefix = p; key = row.0 }, row.1) (rows_under p rows) all)
    (held_under p rows (All-tail HeldRow (record { prefix = p; key = row.0 }, row.1) (rows_under p rows) all))

-- the objects of a table under each full prefix
pub held_parts : (parts : Parts) → All HeldRow (table_of parts) → All HeldPart parts
held_parts [] all = All-nil HeldPart
held_parts (part ∷ parts) all =
    All-cons HeldPart part parts (held_under part.0 part.1 (All-left HeldRow (rows_under part.0 part.1) (table_of parts) all))
    (held_parts parts (All-right HeldRow (rows_under part.0 part.1) (table_of parts) all))
