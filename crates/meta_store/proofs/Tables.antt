-- What a table is after an object was put under a key, and what is read there.
use Rattle.std.proofs.Common.{◌≡◌, ◌≢◌, ℕ, ◌+◌, ◌<◌, ◌≤◌, zero, suc, Bool, true, false, cond, ◌&&◌, T, List, [], ◌∷◌, length, get_or, All, Option, Some, None, is_some, is_none, refl, sym, ap, subst, ◌∙◌, arith, leb}
use Rattle.std.specs.Bool.{passes}
use Rattle.std.specs.Option.{unwrap_or}
use Rattle.std.specs.Ordering.{is_eq, is_lt}
use Rattle.std.specs.declared.cmp.Ordering.{Ordering}
use Rattle.std.specs.declared.cmp.Ordering.TheVariants.{Less, Equal, Greater}
use Rattle.std.specs.Cmp.{tied_itself}
use Rattle.std.specs.FinMap.{find, put, is_sorted}
use Rattle.std.specs.FinMap.Entries.{below_all, by_order, is_sorted-put, find-put, length-put, same_entries}
use Rattle.std.proofs.lemmas.Bool.{leb-false}
use Rattle.std.proofs.lemmas.List.Elements.{All-cons, All-head, All-tail, All-nil}
use Rattle.meta_types.specs.Name.{Key, IsKey}
use Rattle.meta_types.specs.Order.{key_cmp}
use Rattle.dvvset.specs.Object.{Entry}
use Rattle.frame_fields.specs.Field.{has_value}
use Rattle.meta_store.specs.Table.{Table, object_at, with_object, IsHeld, IsTable}
use Rattle.meta_store.specs.Step.{is_full_for}
use Rattle.meta_store.proofs.Keys.{key_total, same_key}

abbrev pub Row : Type 0
Row = Key × List Entry

abbrev pub Held : Row → Type 0
Held row = IsHeld row.1

abbrev pub Keyed : Row → Type 0
Keyed row = IsKey row.0

from_T : (b : Bool) → T b → b ≡ true
from_T true t = refl
from_T false t = absurd t

-- the object under the key, the rest as before
held-put : (k : Key) (o : List Entry) (table : Table) → IsHeld o → All Held table → All Held (put key_cmp k o table)
held-put k o [] is all = All-cons Held (k, o) [] is (All-nil Held)
held-put k o (row ∷ rows) is all = elim (key_cmp k row.0) as (λ c. All Held (by_order c ((k, o) ∷ row ∷ rows) ((row.0, o) ∷ rows) (row ∷ put key_cmp k o rows))) [
  | Less ↦ All-cons Held (k, o) (row ∷ rows) is all
  | Equal ↦ All-cons Held (row.0, o) rows is (All-tail Held row rows all)
  | Greater ↦ All-cons Held row (put key_cmp k o rows) (All-head Held row rows all) (held-put k o rows is (All-tail Held row rows all))
]

keyed-put : (k : Key) (o : List Entry) (table : Table) → IsKey k → All Keyed table → All Keyed (put key_cmp k o table)
keyed-put k o [] is all = All-cons Keyed (k, o) [] is (All-nil Keyed)
keyed-put k o (row ∷ rows) is all = elim (key_cmp k row.0) as (λ c. All Keyed (by_order c ((k, o) ∷ row ∷ rows) ((row.0, o) ∷ rows) (row ∷ put key_cmp k o rows))) [
  | Less ↦ All-cons Keyed (k, o) (row ∷ rows) is all
  | Equal ↦ All-cons Keyed (row.0, o) rows (All-head Keyed row rows all) (All-tail Keyed row rows all)
  | Greater ↦ All-cons Keyed row (put key_cmp k o rows) (All-head Keyed row rows all) (keyed-put k o rows is (All-tail Keyed row rows all))
]

few-put : (k : Key) (table : Table) (found : Option (List Entry)) (n : ℕ) → find key_cmp k table ≡ found → (is_none found && leb 8192 (length table)) ≡ false → n ≡ cond (is_some found) (length table) (length table + 1) → length table ≤ 8192 → n ≤ 8192
few-put k table None n e room is few = let less : length table < 8192 = leb-false 8192 (length table) room in omega (arith, less, is)
few-put k table (Some o) n e room is few = omega (arith, is, few)

pub table_put : (k : Key) (o : List Entry) (table : Table) → IsTable table → IsKey k → IsHeld o → is_full_for table k ≡ false → IsTable (with_object k o table)
table_put k o table is key held room =
    let sorted : T (is_sorted key_cmp table) = passes (is_sorted key_cmp table) is.rising in
    record {
      rising = from_T (is_sorted key_cmp (put key_cmp k o table)) (is_sorted-put key_cmp key_total k o table sorted);
      keys = keyed-put k o table key is.keys;
      few = few-put k table (find key_cmp k table) (length (put key_cmp k o table)) refl room (length-put key_cmp key_total k o table sorted) is.few;
      held = held-put k o table held is.held;
    }

pub found-here : (k : Key) (o : List Entry) (table : Table) → find key_cmp k (with_object k o table) ≡ Some o
found-here k o table =
    find-put key_cmp key_total k k o table ∙ ap (λ c. cond (is_eq c) (Some o) (find key_cmp k table)) (tied_itself key_total k)

pub object_at-here : (k : Key) (o : List Entry) (table : Table) → object_at (with_object k o table) k ≡ o
object_at-here k o table = ap (λ x. unwrap_or x []) (found-here k o table)

other_key : (k l : Key) (c : Ordering) → key_cmp l k ≡ c → l ≢ k → is_eq c ≡ false
other_key k l Less e other = refl
other_key k l Equal e other = absurd (other (same_key l k e))
other_key k l Greater e other = refl

pub object_at-elsewhere : (k : Key) (o : List Entry) (table : Table) (l : Key) → l ≢ k → object_at (with_object k o table) l ≡ object_at table l
object_at-elsewhere k o table l other =
    ap (λ x. unwrap_or x []) (find-put key_cmp key_total l k o table ∙ ap (λ b. cond b (Some o) (find key_cmp l table)) (other_key k l (key_cmp l k) refl other))

-- ---- look-ups determine a table

-- what is found is the object of a row, and its key is that row's
pub record IsRow (k : Key) (o : List Entry) : Type 0 where
  pub held : IsHeld o
  pub key : IsKey k

here_or_later : (k : Key) (row : Row) (o : List Entry) (c : Ordering) (rest : Option (List Entry)) → key_cmp k row.0 ≡ c → Held row → Keyed row → (rest ≡ Some o → IsRow k o) → cond (is_eq c) (Some row.1) rest ≡ Some o → IsRow k o
here_or_later k row o Less rest is held key later e = later e
here_or_later k row o Equal rest is held key later e = record {
  held = subst IsHeld (let same : row.1 ≡ o = cc in same) held;
  key = subst IsKey (sym (same_key k row.0 is)) key;
}
here_or_later k row o Greater rest is held key later e = later e

pub found_row : (k : Key) (table : Table) (o : List Entry) → All Held table → All Keyed table → find key_cmp k table ≡ Some o → IsRow k o
found_row k [] o all keys e = cc
found_row k (row ∷ rows) o all keys e =
    here_or_later k row o (key_cmp k row.0) (find key_cmp k rows) refl (All-head Held row rows all) (All-head Keyed row rows keys)
    (found_row k rows o (All-tail Held row rows all) (All-tail Keyed row rows keys)) e

-- an object that may be held isn't the absent one
pub not_absent : (o : List Entry) → IsHeld o → o ≡ [] → ⊥
not_absent o is e = let no : has_value [] ≡ true = subst (λ es. has_value es ≡ true) e is.shows in cc

same_found : (k : Key) (a b : Option (List Entry)) → ((o : List Entry) → a ≡ Some o → IsRow k o) → ((o : List Entry) → b ≡ Some o → IsRow k o) → (IsKey k → unwrap_or a [] ≡ unwrap_or b []) → a ≡ b
same_found k None None left right alike = refl
same_found k None (Some o) left right alike = let row = right o refl in absurd (not_absent o row.held (sym (alike row.key)))
same_found k (Some o) None left right alike = let row = left o refl in absurd (not_absent o row.held (alike row.key))
same_found k (Some o) (Some p) left right alike = ap (λ x. Some x) (alike (left o refl).key)

pub same_table : (table other : Table) → IsTable table → IsTable other → ((key : Key) → IsKey key → object_at table key ≡ object_at other key) → table ≡ other
same_table table other is js alike =
    same_entries key_cmp key_total same_key table other (passes (is_sorted key_cmp table) is.rising) (passes (is_sorted key_cmp other) js.rising)
    (λ k. same_found k (find key_cmp k table) (find key_cmp k other) (λ o. found_row k table o is.held is.keys) (λ o. found_row k other o js.held js.keys) (alike k))

-- ---- a sorted table rises from each place to each later one

less : (o : Ordering) → T (is_lt o) → o ≡ Less
less Less p = refl
less Equal p = absurd p
less Greater p = absurd p

first_of : (a b : Bool) → T (a && b) → T a
first_of true b p = tt
first_of false b p = absurd p

second_of : (a b : Bool) → T (a && b) → T b
second_of true b p = p
second_of false b p = absurd p

below_at : (k : Key) (table : Table) (j : ℕ) (d : Row) → T (below_all key_cmp k table) → j < length table → key_cmp k (get_or table j d).0 ≡ Less
below_at k [] j d h lt = absurd (omega (arith, lt))
below_at k (row ∷ rows) zero d h lt = less (key_cmp k row.0) (first_of (is_lt (key_cmp k row.0)) (below_all key_cmp k rows) h)
below_at k (row ∷ rows) (suc j) d h lt = below_at k rows j d (second_of (is_lt (key_cmp k row.0)) (below_all key_cmp k rows) h) (omega (arith, lt))

pub rises : (table : Table) (i j : ℕ) (d : Row) → T (is_sorted key_cmp table) → i < j → j < length table → key_cmp (get_or table i d).0 (get_or table j d).0 ≡ Less
rises [] i j d h lt within = absurd (omega (arith, within))
rises (row ∷ rows) i zero d h lt within = absurd (omega (arith, lt))
rises (row ∷ rows) zero (suc j) d h lt within = below_at row.0 rows j d (first_of (below_all key_cmp row.0 rows) (is_sorted key_cmp rows) h) (omega (arith, within))
rises (row ∷ rows) (suc i) (suc j) d h lt within = rises rows i j d (second_of (below_all key_cmp row.0 rows) (is_sorted key_cmp rows) h) (omega (arith, lt)) (omega (arith, within))
