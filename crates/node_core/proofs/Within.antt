-- A table each of whose keys is held in another has no more keys than that.
use Rattle.std.proofs.Common.{◌≡◌, ◌≢◌, ℕ, ◌+◌, ◌<◌, ◌≤◌, true, false, cond, not, T, List, [], ◌∷◌, length, Option, Some, None, is_some, is_none, ◌&&◌, leb, refl, sym, ap, subst, ◌∙◌, arith}
use Rattle.std.proofs.lemmas.Bool.{leb-true}
use Rattle.std.specs.Ordering.{is_eq, ordering_reverse}
use Rattle.std.specs.Cmp.{tied_itself}
use Rattle.std.specs.declared.cmp.Ordering.{Ordering}
use Rattle.std.specs.declared.cmp.Ordering.TheVariants.{Less, Equal, Greater}
use Rattle.std.specs.FinMap.{find, is_sorted}
use Rattle.std.specs.FinMap.Entries.{find-put, find-where_key, is_sorted-put, is_sorted-where_key, length-put, length_without}
use Rattle.meta_types.specs.Name.{Key}
use Rattle.meta_types.specs.Order.{key_cmp}
use Rattle.dvvset.specs.Object.{Entry}
use Rattle.meta_store.specs.Step.{is_full_for}
use Rattle.meta_store.specs.Table.{IsTable, Table, most_keys, with_object, without_object}
use Rattle.meta_store.proofs.Forgetting.{first_only}
use Rattle.meta_store.proofs.Keys.{flipped, key_total, same_key}
use Rattle.meta_store.proofs.Maps.{rest_sorted}
use Rattle.node_core.specs.Growing.{KeepsKeys}

some_of : (found : Option (List Entry)) → found ≢ None → is_some found ≡ true
some_of None some = absurd (some refl)
some_of (Some o) some = refl

-- without a key that it holds a table has one key fewer
one_fewer : (key : Key) (table : Table) → T (is_sorted key_cmp table) → find key_cmp key table ≢ None
    → length (without_object key table) + 1 ≡ length table
one_fewer key table sorted some =
    let is = length_without key_cmp key_total key table sorted in
    let found = some_of (find key_cmp key table) some in
    let count : 1 + length (without_object key table) ≡ length table =
    subst (λ b. cond b 1 0 + length (without_object key table) ≡ length table) found is in
    omega (arith, count)

-- a test of a key that ties with another is that of the other
tied_test : (key q x : Key) → key_cmp q x ≡ Equal
    → not (is_eq (key_cmp key x)) ≡ not (is_eq (key_cmp key q))
tied_test key q x tied = ap (λ k. not (is_eq (key_cmp key k))) (sym (same_key q x tied))

-- what is held under another key stays without the first
others_stay : (key : Key) (table : Table) (q : Key) → is_eq (key_cmp key q) ≡ false
    → find key_cmp q (without_object key table) ≡ find key_cmp q table
others_stay key table q apart =
    find-where_key key_cmp (λ k. not (is_eq (key_cmp key k))) q (tied_test key q) table
    ∙ ap (λ b. cond (not b) (find key_cmp q table) None) apart

-- a key of the rest isn't the first
apart_from_first : (row : Key × List Entry) (rows : Table) → T (is_sorted key_cmp (row ∷ rows)) → (q : Key)
    → find key_cmp q rows ≢ None → (r : Ordering) → key_cmp q row.0 ≡ r → is_eq r ≡ false
apart_from_first row rows sorted q some Less is = refl
apart_from_first row rows sorted q some Greater is = refl
apart_from_first row rows sorted q some Equal is = absurd (some (first_only key_cmp key_total q row rows sorted is))

reversed_tie : (o : Ordering) → is_eq (ordering_reverse o) ≡ is_eq o
reversed_tie Less = refl
reversed_tie Equal = refl
reversed_tie Greater = refl

rest_within : (row : Key × List Entry) (rows other : Table) → T (is_sorted key_cmp (row ∷ rows))
    → KeepsKeys (row ∷ rows) other → KeepsKeys rows (without_object row.0 other)
rest_within row rows other sorted keeps q some =
    let apart = apart_from_first row rows sorted q some (key_cmp q row.0) refl in
    let held : find key_cmp q (row ∷ rows) ≢ None =
    subst (λ b. cond b (Some row.1) (find key_cmp q rows) ≢ None) (sym apart) some in
    let back = ap is_eq (flipped q row.0 (key_cmp q row.0) refl) ∙ (reversed_tie (key_cmp q row.0) ∙ apart) in
    subst (λ found. found ≢ None) (sym (others_stay row.0 other q back)) (keeps q held)

first_held : (row : Key × List Entry) (rows : Table) → find key_cmp row.0 (row ∷ rows) ≢ None
first_held row rows none =
    let clash : Some row.1 ≡ None =
    ap (λ r. cond (is_eq r) (Some row.1) (find key_cmp row.0 rows)) (sym (tied_itself key_total row.0)) ∙ none in
    absurd (cc)

pub no_longer : (one other : Table) → T (is_sorted key_cmp one) → T (is_sorted key_cmp other)
    → KeepsKeys one other → length one ≤ length other
no_longer [] other sorted its keeps = omega arith
no_longer (row ∷ rows) other sorted its keeps =
    let fewer = one_fewer row.0 other its (keeps row.0 (first_held row rows)) in
    let rest = no_longer rows (without_object row.0 other) (rest_sorted key_cmp key_total row rows sorted)
    (is_sorted-where_key key_cmp (λ k. not (is_eq (key_cmp row.0 k))) other its)
    (rest_within row rows other sorted keeps) in
    omega (arith, fewer, rest)

pub gt_leb : (a b : ℕ) → b < a → leb a b ≡ false
gt_leb a b less =
    elim (leb a b) as (λ t. leb a b ≡ t → t ≡ false) [
      | true ↦ λ is. let le = leb-true a b is in absurd (omega (arith, le, less))
      | false ↦ λ is. refl
    ] refl

pub keeps_with : (one other : Table) (key : Key) (object : List Entry) → KeepsKeys one other
    → find key_cmp key other ≢ None → KeepsKeys (with_object key object one) other
keeps_with one other key object keeps held q some =
    elim (key_cmp q key) as (λ r. key_cmp q key ≡ r → cond (is_eq r) (Some object) (find key_cmp q one) ≢ None → find key_cmp q other ≢ None) [
      | Less ↦ λ is there. keeps q there
      | Equal ↦ λ is there. subst (λ k. find key_cmp k other ≢ None) (sym (same_key q key is)) held
      | Greater ↦ λ is there. keeps q there
    ] refl (subst (λ found. found ≢ None) (find-put key_cmp key_total q key object one) some)

-- the other, which is a table, holds the key: so there is room for it in the one
pub room_within : (one other : Table) (key : Key) → T (is_sorted key_cmp one) → IsTable other
    → KeepsKeys one other → find key_cmp key other ≢ None → is_full_for one key ≡ false
room_within one other key sorted is keeps held =
    elim (find key_cmp key one) as (λ found. find key_cmp key one ≡ found → (is_none found && leb most_keys (length one)) ≡ false) [
      | Some o ↦ λ there. refl
      | None ↦ λ none.
          let longer : length (with_object key [] one) ≡ length one + 1 =
          length-put key_cmp key_total key [] one sorted
          ∙ ap (λ found. cond (is_some found) (length one) (length one + 1)) none in
          let fewer = no_longer (with_object key [] one) other (is_sorted-put key_cmp key_total key [] one sorted)
          (subst T (sym is.rising) tt) (keeps_with one other key [] keeps held) in
          gt_leb most_keys (length one) (omega (arith, longer, fewer, is.few))
    ] refl
