-- A table whose keys another table has holds no more keys than that one.
use Rattle.std.proofs.Common.{◌≡◌, ◌≢◌, ℕ, zero, suc, ◌+◌, ◌<◌, ◌≤◌, Bool, true, false, not, cond, ◌&&◌, T, List, [], ◌∷◌, length, Option, Some, None, is_some, is_none, refl, sym, ap, subst, ◌∙◌, arith, leb}
use Rattle.std.specs.Bool.{passes}
use Rattle.std.specs.Option.{unwrap_or}
use Rattle.std.specs.declared.cmp.Ordering.{Ordering}
use Rattle.std.specs.declared.cmp.Ordering.TheVariants.{Less, Equal, Greater}
use Rattle.std.specs.Ordering.{eq_by_cmp, is_eq}
use Rattle.std.specs.Cmp.{tied_itself}
use Rattle.std.specs.FinMap.{find, put, is_sorted}
use Rattle.std.specs.FinMap.Entries.{where_key, is_sorted-where_key, is_sorted-put, find-where_key, find-put, length-put, length_without}
use Rattle.std.proofs.lemmas.Bool.{leb-true}
use Rattle.meta_types.specs.Name.{Key}
use Rattle.meta_types.specs.Order.{key_cmp}
use Rattle.dvvset.specs.Object.{Entry}
use Rattle.meta_store.specs.Table.{Table, IsTable, object_at}
use Rattle.meta_store.specs.Step.{is_full_for}
use Rattle.meta_store.proofs.Keys.{key_total, same_key}
use Rattle.meta_store.proofs.Tables.{found_row, not_absent}

-- each key of the one is a key of the other
pub record KeysWithin (table other : Table) : Type 0 where
  pub within : (k : Key) → is_some (find key_cmp k table) ≡ true → is_some (find key_cmp k other) ≡ true

-- not the key
abbrev others : Key → Key → Bool
others k l = not (eq_by_cmp key_cmp k l)

alike : (k l m : Key) → key_cmp l m ≡ Equal → others k m ≡ others k l
alike k l m e = ap (others k) (sym (same_key l m e))

find-others : (k l : Key) (table : Table) → find key_cmp l (where_key key_cmp (others k) table) ≡ cond (others k l) (find key_cmp l table) None
find-others k l table = find-where_key key_cmp (others k) l (λ m e. alike k l m e) table

kept : (b : Bool) (x y : Option (List Entry)) → (is_some x ≡ true → is_some y ≡ true) → is_some (cond b x None) ≡ true → is_some (cond b y None) ≡ true
kept true x y within e = within e
kept false x y within e = e

within-others : (k : Key) (table other : Table) → KeysWithin table other → KeysWithin (where_key key_cmp (others k) table) (where_key key_cmp (others k) other)
within-others k table other w = record {
  within = λ l e.
      ap is_some (find-others k l other)
      ∙ kept (others k l) (find key_cmp l table) (find key_cmp l other) (w.within l) (sym (ap is_some (find-others k l table)) ∙ e);
}

first_found : (row : Key × List Entry) (rows : Table) → is_some (find key_cmp row.0 (row ∷ rows)) ≡ true
first_found row rows = ap (λ c. is_some (cond (is_eq c) (Some row.1) (find key_cmp row.0 rows))) (tied_itself key_total row.0)

-- without a key that it has, a table has one row less
one_less : (k : Key) (table : Table) → is_sorted key_cmp table ≡ true → is_some (find key_cmp k table) ≡ true → 1 + length (where_key key_cmp (others k) table) ≡ length table
one_less k table rising found =
    ap (λ b. cond b 1 0 + length (where_key key_cmp (others k) table)) (sym found)
    ∙ length_without key_cmp key_total k table (passes (is_sorted key_cmp table) rising)

from_T : (b : Bool) → T b → b ≡ true
from_T true t = refl
from_T false t = absurd t

rising-others : (k : Key) (table : Table) → is_sorted key_cmp table ≡ true → is_sorted key_cmp (where_key key_cmp (others k) table) ≡ true
rising-others k table rising =
    from_T (is_sorted key_cmp (where_key key_cmp (others k) table)) (is_sorted-where_key key_cmp (others k) table (passes (is_sorted key_cmp table) rising))

-- by the length of the first
no_longer_by : (n : ℕ) (table other : Table) → length table ≤ n → is_sorted key_cmp table ≡ true → is_sorted key_cmp other ≡ true → KeysWithin table other → length table ≤ length other
no_longer_by zero table other short rising up w = omega arith
no_longer_by (suc n) [] other short rising up w = omega arith
no_longer_by (suc n) (row ∷ rows) other short rising up w =
    let k : Key = row.0 in
    let found : is_some (find key_cmp k (row ∷ rows)) ≡ true = first_found row rows in
    let here : 1 + length (where_key key_cmp (others k) (row ∷ rows)) ≡ length (row ∷ rows) = one_less k (row ∷ rows) rising found in
    let there : 1 + length (where_key key_cmp (others k) other) ≡ length other = one_less k other up (w.within k found) in
    let rest : length (where_key key_cmp (others k) (row ∷ rows)) ≤ length (where_key key_cmp (others k) other) =
    no_longer_by n (where_key key_cmp (others k) (row ∷ rows)) (where_key key_cmp (others k) other) (omega (arith, here, short))
    (rising-others k (row ∷ rows) rising) (rising-others k other up) (within-others k (row ∷ rows) other w) in
    omega (arith, here, there, rest)

pub no_longer : (table other : Table) → is_sorted key_cmp table ≡ true → is_sorted key_cmp other ≡ true → KeysWithin table other → length table ≤ length other
no_longer table other rising up w = no_longer_by (length table) table other (omega arith) rising up w

-- ---- room for a key that the other has too

by_test : (m n : ℕ) (b : Bool) → leb m n ≡ b → n < m → b ≡ false
by_test m n true e less = let low : m ≤ n = leb-true m n e in absurd (omega (arith, low, less))
by_test m n false e less = refl

-- one of the two keys, or one that is found
either : (k l : Key) (o : List Entry) (found : Option (List Entry)) (other : Table) (c : Ordering) → key_cmp l k ≡ c → is_some (find key_cmp k other) ≡ true
    → (is_some found ≡ true → is_some (find key_cmp l other) ≡ true) → is_some (cond (is_eq c) (Some o) found) ≡ true → is_some (find key_cmp l other) ≡ true
either k l o found other Equal e here there some = subst (λ m. is_some (find key_cmp m other) ≡ true) (sym (same_key l k e)) here
either k l o found other Less e here there some = there some
either k l o found other Greater e here there some = there some

room_by : (k : Key) (table other : Table) → IsTable table → IsTable other → KeysWithin table other → is_some (find key_cmp k other) ≡ true
    → (found : Option (List Entry)) → find key_cmp k table ≡ found → is_none found && leb 8192 (length table) ≡ false
room_by k table other is js w here (Some o) e = refl
room_by k table other is js w here None e =
    let sorted = passes (is_sorted key_cmp table) is.rising in
    let more : Table = put key_cmp k [] table in
    let longer : length more ≡ length table + 1 = length-put key_cmp key_total k [] table sorted ∙ ap (λ o. cond (is_some o) (length table) (length table + 1)) e in
    let within : KeysWithin more other = record {
      within = λ l some. either k l [] (find key_cmp l table) other (key_cmp l k) refl here (w.within l) (sym (ap is_some (find-put key_cmp key_total l k [] table)) ∙ some);
    } in
    let few : length more ≤ length other = no_longer more other (from_T (is_sorted key_cmp more) (is_sorted-put key_cmp key_total k [] table sorted)) js.rising within in
    by_test 8192 (length table) (leb 8192 (length table)) refl (omega (arith, longer, few, js.few))

pub room_within : (k : Key) (table other : Table) → IsTable table → IsTable other → KeysWithin table other → is_some (find key_cmp k other) ≡ true → is_full_for table k ≡ false
room_within k table other is js w here = room_by k table other is js w here (find key_cmp k table) refl

-- ---- keys by what is read

shows_by : (o : Option (List Entry)) → unwrap_or o [] ≢ [] → is_some o ≡ true
shows_by None some = absurd (some refl)
shows_by (Some p) some = refl

-- if an object is read, the key is one of the table
pub found_from : (k : Key) (table : Table) → object_at table k ≢ [] → is_some (find key_cmp k table) ≡ true
found_from k table some = shows_by (find key_cmp k table) some

shown_by : (k : Key) (table : Table) → IsTable table → (o : Option (List Entry)) → find key_cmp k table ≡ o → is_some o ≡ true → unwrap_or o [] ≢ []
shown_by k table is None e some = cc
shown_by k table is (Some p) e some = not_absent p (found_row k table p is.held is.keys e).held

-- and the other way round
pub shown_from : (k : Key) (table : Table) → IsTable table → is_some (find key_cmp k table) ≡ true → object_at table k ≢ []
shown_from k table is some = shown_by k table is (find key_cmp k table) refl some
