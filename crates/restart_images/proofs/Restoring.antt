-- A store is filled from an image: from the newest change down, each if nothing is held under its
-- key.
use Rattle.std.proofs.Common.{◌≡◌, ℕ, ◌-◌, ◌<◌, ◌≤◌, Bool, true, false, cond, ◌&&◌, List, [], length, get_or, Option, Some, None, is_some, is_none, refl, sym, ap, subst, ◌∙◌, arith, leb}
use Rattle.std.specs.Option.{unwrap_or}
use Rattle.std.specs.Ordering.{is_eq}
use Rattle.std.specs.declared.cmp.Ordering.{Ordering}
use Rattle.std.specs.declared.cmp.Ordering.TheVariants.{Less, Equal, Greater}
use Rattle.std.specs.Cmp.{tied_itself}
use Rattle.std.specs.FinMap.{find}
use Rattle.std.specs.FinMap.Entries.{find-put}
use Rattle.meta_types.specs.Name.{Key}
use Rattle.meta_types.specs.Order.{key_cmp}
use Rattle.dvvset.specs.Object.{Entry}
use Rattle.meta_types.specs.Equal.{key_eq}
use Rattle.past_model.proofs.Keys.{key_eq-true, key_eq-self}
use Rattle.meta_store.specs.Table.{Table, IsHeld, IsTable, object_at, with_object}
use Rattle.meta_store.proofs.Keys.{key_total, same_key}
use Rattle.meta_store.proofs.Tables.{found_row, not_absent}
use Rattle.restart_images.specs.Images.{Image, ChangeEarlier, IsChange, IsTabled, holdings, instead}
use Rattle.restart_images.specs.Restore.{HasRoomFor, filled}
use Rattle.restart_images.proofs.Bounded.{KeysWithin, room_within}
use Rattle.restart_images.proofs.Chains.{down, none}

-- what the store has, and under other keys what the image has that comes next, is what the image asked for has
pub record Filling (images : List Image) (number at : ℕ) (store : Table) : Type 0 where
  pub low : at ≤ length images
  pub is_table : IsTable store
  pub has : (k : Key) → holdings images number k ≡ unwrap_or (find key_cmp k store) (holdings images at k)

-- the image at the place, by its change and its base
pub record IsNext (images : List Image) (at : ℕ) (image : Image) : Type 0 where
  pub base : image.base < at
  pub has : (k : Key) → holdings images at k ≡ unwrap_or (instead image.change k) (holdings images image.base k)

pub next : (images : List Image) (at : ℕ) (image : Image) → 0 < at → at ≤ length images → ChangeEarlier images → image ≡ get_or images (at - 1) image → IsNext images at image
next images at image low most earlier is = record {
  base = (down images at at image (record { prefix = record { prefix = []; sub = [] }; key = [] }) (instead image.change (record { prefix = record { prefix = []; sub = [] }; key = [] })) low most earlier is refl refl).0;
  has = λ k. sym (down images at at image k (instead image.change k) low most earlier is refl refl).1;
}

-- ---- small steps

tied : (k : Key) → key_cmp k k ≡ Equal
tied k = tied_itself key_total k

equal_keys : (l k : Key) (c : Ordering) → key_cmp l k ≡ c → is_eq c ≡ true → l ≡ k
equal_keys l k Equal e same = same_key l k e
equal_keys l k Less e same = cc
equal_keys l k Greater e same = cc

-- ---- room

absent_by : (o : Option (List Entry)) (object : List Entry) → unwrap_or o [] ≡ object → (object ≡ [] → ⊥) → is_some o ≡ true
absent_by None object e there = absurd (there (sym e))
absent_by (Some p) object e there = refl

-- what the store has is in the table of the image
store_within : (images : List Image) (number at : ℕ) (store : Table) (tabled : IsTabled (holdings images number)) (f : Filling images number at store) (k : Key) (p : List Entry)
    → find key_cmp k store ≡ Some p → is_some (find key_cmp k tabled.table) ≡ true
store_within images number at store tabled f k p found =
    let held : IsHeld p = (found_row k store p f.is_table.held f.is_table.keys found).held in
    let same : holdings images number k ≡ p = f.has k ∙ ap (λ o. unwrap_or o (holdings images at k)) found in
    absent_by (find key_cmp k tabled.table) p (tabled.same k ∙ same) (not_absent p held)

change_within : (images : List Image) (number at : ℕ) (store : Table) (tabled : IsTabled (holdings images number)) (f : Filling images number at store) (image : Image) (is : IsNext images at image)
    (change : Key × List Entry) → image.change ≡ Some change → IsHeld change.1 → find key_cmp change.0 store ≡ None → is_some (find key_cmp change.0 tabled.table) ≡ true
change_within images number at store tabled f image is change e held found =
    let k : Key = change.0 in
    let there : holdings images number k ≡ change.1 =
    f.has k ∙ ap (λ o. unwrap_or o (holdings images at k)) found ∙ is.has k
    ∙ ap (λ c. unwrap_or (instead c k) (holdings images image.base k)) e
    ∙ ap (λ b. unwrap_or (cond b (Some change.1) None) (holdings images image.base k)) (key_eq-self k) in
    absent_by (find key_cmp k tabled.table) change.1 (tabled.same k ∙ there) (not_absent change.1 held)

found_in : (images : List Image) (number at : ℕ) (store : Table) (tabled : IsTabled (holdings images number)) (f : Filling images number at store) (k : Key)
    (found : Option (List Entry)) → find key_cmp k store ≡ found → is_some found ≡ true → is_some (find key_cmp k tabled.table) ≡ true
found_in images number at store tabled f k None e some = cc
found_in images number at store tabled f k (Some p) e some = store_within images number at store tabled f k p e

room_by : (images : List Image) (number at : ℕ) (store : Table) (tabled : IsTabled (holdings images number)) (f : Filling images number at store) (image : Image) (is : IsNext images at image)
    (change : Key × List Entry) → image.change ≡ Some change → IsHeld change.1 → (found : Option (List Entry)) → find key_cmp change.0 store ≡ found → is_none found && leb 8192 (length store) ≡ false
room_by images number at store tabled f image is change e held (Some p) found = refl
room_by images number at store tabled f image is change e held None found =
    let within : KeysWithin store tabled.table = record { within = λ l some. found_in images number at store tabled f l (find key_cmp l store) refl some } in
    ap (λ o. is_none o && leb 8192 (length store)) (sym found)
    ∙ room_within change.0 store tabled.table f.is_table tabled.is_table within (change_within images number at store tabled f image is change e held found)

room_of : (images : List Image) (number at : ℕ) (store : Table) (tabled : IsTabled (holdings images number)) (f : Filling images number at store) (image : Image) (is : IsNext images at image)
    (change : Option (Key × List Entry)) → image.change ≡ change → IsChange change → HasRoomFor store change
room_of images number at store tabled f image is None e held = tt
room_of images number at store tabled f image is (Some change) e held = room_by images number at store tabled f image is change e held (find key_cmp change.0 store) refl

pub room : (images : List Image) (number at : ℕ) (store : Table) → IsTabled (holdings images number) → Filling images number at store → (image : Image) → IsNext images at image → IsChange image.change → HasRoomFor store image.change
room images number at store tabled f image is held = room_of images number at store tabled f image is image.change refl held

-- ---- a change more

-- under a key with nothing held, not changed, the base has what the image has
passed : (b : Bool) (found : Option (List Entry)) (o : List Entry) (rest all : List Entry) → (b ≡ true → found ≡ None → ⊥) → all ≡ unwrap_or found (unwrap_or (cond b (Some o) None) rest) → all ≡ unwrap_or found rest
passed true None o rest all not e = absurd (not refl refl)
passed true (Some p) o rest all not e = e
passed false None o rest all not e = e
passed false (Some p) o rest all not e = e

taken : (c : Ordering) (b : Bool) (found : Option (List Entry)) (o rest all : List Entry) → (is_eq c ≡ true → found ≡ None) → is_eq c ≡ b → all ≡ unwrap_or found (unwrap_or (cond b (Some o) None) rest) → all ≡ unwrap_or (cond (is_eq c) (Some o) found) rest
taken Equal true None o rest all not same e = e
taken Equal true (Some p) o rest all not same e = let no : Some p ≡ None = not refl in cc
taken Equal false found o rest all not same e = cc
taken Less true found o rest all not same e = cc
taken Less false None o rest all not same e = e
taken Less false (Some p) o rest all not same e = e
taken Greater true found o rest all not same e = cc
taken Greater false None o rest all not same e = e
taken Greater false (Some p) o rest all not same e = e

-- the two tests of keys
same_tests : (l k : Key) (c : Ordering) (b : Bool) → key_cmp l k ≡ c → key_eq l k ≡ b → is_eq c ≡ b
same_tests l k Equal true e d = refl
same_tests l k Equal false e d = let t : key_eq l k ≡ true = subst (λ m. key_eq l m ≡ true) (same_key l k e) (key_eq-self l) in cc
same_tests l k Less false e d = refl
same_tests l k Greater false e d = refl
same_tests l k Less true e d = let t : Less ≡ Equal = sym e ∙ subst (λ m. key_cmp l m ≡ Equal) (key_eq-true l k d) (tied l) in cc
same_tests l k Greater true e d = let t : Greater ≡ Equal = sym e ∙ subst (λ m. key_cmp l m ≡ Equal) (key_eq-true l k d) (tied l) in cc

step_by : (images : List Image) (number at : ℕ) (store : Table) → Filling images number at store → (image : Image) → IsNext images at image
    → (change : Key × List Entry) → image.change ≡ Some change → (found : Option (List Entry)) → find key_cmp change.0 store ≡ found
    → (l : Key) → holdings images number l ≡ unwrap_or (find key_cmp l (cond (is_none found) (with_object change.0 change.1 store) store)) (holdings images image.base l)
step_by images number at store f image is change e (Some p) found l =
    let now : holdings images number l ≡ unwrap_or (find key_cmp l store) (unwrap_or (instead (Some change) l) (holdings images image.base l)) =
    f.has l ∙ ap (λ h. unwrap_or (find key_cmp l store) h) (is.has l ∙ ap (λ c. unwrap_or (instead c l) (holdings images image.base l)) e) in
    passed (key_eq l change.0) (find key_cmp l store) change.1 (holdings images image.base l) (holdings images number l)
    (λ same nothing. let no : Some p ≡ None = sym found ∙ ap (λ k. find key_cmp k store) (sym (key_eq-true l change.0 same)) ∙ nothing in cc) now
step_by images number at store f image is change e None found l =
    let now : holdings images number l ≡ unwrap_or (find key_cmp l store) (unwrap_or (instead (Some change) l) (holdings images image.base l)) =
    f.has l ∙ ap (λ h. unwrap_or (find key_cmp l store) h) (is.has l ∙ ap (λ c. unwrap_or (instead c l) (holdings images image.base l)) e) in
    taken (key_cmp l change.0) (key_eq l change.0) (find key_cmp l store) change.1 (holdings images image.base l) (holdings images number l)
    (λ same. ap (λ k. find key_cmp k store) (equal_keys l change.0 (key_cmp l change.0) refl same) ∙ found)
    (same_tests l change.0 (key_cmp l change.0) (key_eq l change.0) refl refl) now
    ∙ ap (λ o. unwrap_or o (holdings images image.base l)) (sym (find-put key_cmp key_total l change.0 change.1 store))

step_of : (images : List Image) (number at : ℕ) (store : Table) → Filling images number at store → (image : Image) → IsNext images at image
    → (change : Option (Key × List Entry)) → image.change ≡ change → (l : Key) → holdings images number l ≡ unwrap_or (find key_cmp l (filled store change)) (holdings images image.base l)
step_of images number at store f image is None e l =
    f.has l ∙ ap (λ h. unwrap_or (find key_cmp l store) h) (is.has l ∙ ap (λ c. unwrap_or (instead c l) (holdings images image.base l)) e)
step_of images number at store f image is (Some change) e l = step_by images number at store f image is change e (find key_cmp change.0 store) refl l

pub step : (images : List Image) (number at : ℕ) (store more : Table) → Filling images number at store → (image : Image) → IsNext images at image → IsTable more → more ≡ filled store image.change
    → Filling images number image.base more
step images number at store more f image is table e = record {
  low = omega (arith, f.low, is.base);
  is_table = table;
  has = λ l. step_of images number at store f image is image.change refl l ∙ ap (λ t. unwrap_or (find key_cmp l t) (holdings images image.base l)) (sym e);
}

-- ---- start and end

pub start : (images : List Image) (number : ℕ) (store : Table) → number ≤ length images → IsTable store → store ≡ [] → Filling images number number store
start images number store low table e = record {
  low = low;
  is_table = table;
  has = λ k. ap (λ t. unwrap_or (find key_cmp k t) (holdings images number k)) (sym e);
}

pub whole : (images : List Image) (number at : ℕ) (store : Table) → at ≤ 0 → Filling images number at store → (k : Key) → object_at store k ≡ holdings images number k
whole images number at store low f k =
    let first : holdings images at k ≡ [] = ap (λ n. holdings images n k) (let e : at ≡ 0 = omega (arith, low) in e) ∙ none images k in
    ap (unwrap_or (find key_cmp k store)) (sym first) ∙ sym (f.has k)
