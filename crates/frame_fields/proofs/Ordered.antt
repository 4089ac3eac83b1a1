-- Rows fit their field if they rise.
use Rattle.std.proofs.Common.{◌≡◌, ℕ, zero, suc, ◌+◌, ◌-◌, ◌^◌, ◌<◌, ◌≤◌, ◌↔◌, Bool, true, ◌&&◌, ◌||◌, not, List, [], ◌∷◌, length, get_or, All, refl, sym, ap, subst, ◌∙◌, inl, add-one, arith}
use Rattle.std.specs.declared.cmp.Ordering.{Ordering}
use Rattle.std.specs.declared.cmp.Ordering.TheVariants.{Less, Equal, Greater}
use Rattle.std.specs.Ordering.{is_lt, ordering_then, ordering_reverse}
use Rattle.std.specs.Int.{w16}
use Rattle.std.specs.Cmp.{IsTotalOrder, first_so, second_so}
use Rattle.std.proofs.lemmas.Cmp.{nat_list_cmp_total, on_total, then_total}
use Rattle.std.proofs.lemmas.List.Elements.{All-cons, All-nil, All-head, All-tail}
use Rattle.meta_types.specs.Name.{Prefix, IsFullPrefix}
use Rattle.meta_types.specs.Order.{BytesBefore, PrefixBefore, bytes_cmp, prefix_cmp}
use Rattle.meta_types.proofs.Comparing.{bytes_before, prefix_before}
use Rattle.frame_fields.specs.declared.prefixes.PrefixDigest.{PrefixDigest}
use Rattle.frame_fields.specs.declared.keys.KeyDigest.{KeyDigest}
use Rattle.frame_fields.specs.Form.{Form, EachFits}
use Rattle.frame_fields.specs.Field.{list, named, is_before, prefix_above, prefix_row, prefix_of, lowest, prefixes, key_row, key_bytes, keys}
use Rattle.frame_fields.specs.Rising.{IsRising, IsRisingThroughout, IsPrefixRow, ArePrefixRows, IsKeyRow, AreKeyRows}
use Rattle.frame_fields.proofs.Spellable.{number_within, number_fits}

-- ---- lists and names

list_fits : {S A : Type 0} (low high : ℕ) (form : S → Form A) (next : A → S) (s : S) (xs : List A) → high < 2 ^ 16 → low ≤ length xs → length xs ≤ high → EachFits form next s xs → (list low high form next s).Fits xs
list_fits low high form next s xs lt least most each = (number_fits w16 low high (length xs) (omega arith) least most, (refl, each))

list_most : {S A : Type 0} (low high : ℕ) (form : S → Form A) (next : A → S) (s : S) (xs : List A) → (list low high form next s).Fits xs → length xs ≤ high
list_most low high form next s xs fits = (number_within w16 low high (length xs) fits.0).most

named_fits : (low high : ℕ) (rule : List ℕ → Bool) (bytes : List ℕ) → high < 2 ^ 16 → low ≤ length bytes → length bytes ≤ high → rule bytes ≡ true → (named low high rule).Fits bytes
named_fits low high rule bytes lt least most so = (number_fits w16 low high (length bytes) (omega arith) least most, (refl, so))

named_range : (low high : ℕ) (rule : List ℕ → Bool) (bytes : List ℕ) → (named low high rule).Fits bytes → (low ≤ length bytes) × (length bytes ≤ high)
named_range low high rule bytes fits = let within = number_within w16 low high (length bytes) fits.0 in (within.least, within.most)

-- ---- order

less_from_is_lt : (o : Ordering) → is_lt o ≡ true → o ≡ Less
less_from_is_lt Less h = refl
less_from_is_lt Equal h = cc
less_from_is_lt Greater h = cc

both_tests : (o p : Ordering) → (not (is_lt (ordering_reverse o)) && (is_lt o || is_lt p)) ≡ is_lt (ordering_then o p)
both_tests Less p = refl
both_tests Equal p = refl
both_tests Greater p = refl

-- what is asked of both parts is that the prefix stands after
above_is : (low p : Prefix) → (not (is_before p.prefix low.prefix) && (is_before low.prefix p.prefix || is_before low.sub p.sub)) ≡ is_lt (prefix_cmp low p)
above_is low p =
    ap (λ o. not (is_lt o) && (is_before low.prefix p.prefix || is_before low.sub p.sub)) (nat_list_cmp_total.antisymm p.prefix low.prefix)
    ∙ both_tests (bytes_cmp low.prefix p.prefix) (bytes_cmp low.sub p.sub)

prefix_in_range : (low p : Prefix) → (prefix_above low).Fits p → IsFullPrefix p
prefix_in_range low p fits =
    (named_range 1 64 (λ first. not (is_before first low.prefix)) p.prefix fits.0, named_range 1 64 (λ sub. is_before low.prefix p.prefix || is_before low.sub sub) p.sub fits.1)

prefix_behind : (low p : Prefix) → (prefix_above low).Fits p → PrefixBefore low p
prefix_behind low p fits =
    (prefix_before (prefix_cmp low p) low p refl).0 (less_from_is_lt (prefix_cmp low p) (sym (above_is low p) ∙ (λ i. fits.0.1.1 i && fits.1.1.1 i)))

prefix_fits : (low p : Prefix) → IsFullPrefix p → PrefixBefore low p → (prefix_above low).Fits p
prefix_fits low p is before =
    let both : (not (is_before p.prefix low.prefix) && (is_before low.prefix p.prefix || is_before low.sub p.sub)) ≡ true = above_is low p ∙ ap is_lt ((prefix_before (prefix_cmp low p) low p refl).1 before) in (
      named_fits 1 64 (λ first. not (is_before first low.prefix)) p.prefix (omega arith) is.0.0 is.0.1 (first_so (not (is_before p.prefix low.prefix)) (is_before low.prefix p.prefix || is_before low.sub p.sub) both),
      named_fits 1 64 (λ sub. is_before low.prefix p.prefix || is_before low.sub sub) p.sub (omega arith) is.1.0 is.1.1 (second_so (not (is_before p.prefix low.prefix)) (is_before low.prefix p.prefix || is_before low.sub p.sub) both),
    )

empty_before : (bytes : List ℕ) → 1 ≤ length bytes → BytesBefore [] bytes
empty_before [] least = absurd (omega arith)
empty_before (x ∷ xs) least = inl (record { next = x; rest = xs; split = refl })

-- ---- rows

-- a form for each row that asks a fact of the row, and that it stands after the one before
record Orders {S A : Type 0} (form : S → Form A) (next : A → S) (start : S) (Row : A → Type 0) (Before : A → A → Type 0) : Type 0 where
  lawful : (s : S) (x : A) → (form s).Fits x → Row x
  behind : (x y : A) → (form (next x)).Fits y → Before x y
  fits : (x y : A) → Row y → Before x y → (form (next x)).Fits y
  first : (x : A) → Row x → (form start).Fits x

all_lawful : {S A : Type 0} (form : S → Form A) (next : A → S) (start : S) (Row : A → Type 0) (Before : A → A → Type 0) → Orders form next start Row Before → (s : S) (xs : List A) → EachFits form next s xs → All Row xs
all_lawful form next start Row Before o s [] each = All-nil Row
all_lawful form next start Row Before o s (x ∷ xs) each = All-cons Row x xs (o.lawful s x each.0) (all_lawful form next start Row Before o (next x) xs each.1)

rise : {S A : Type 0} (form : S → Form A) (next : A → S) (start : S) (Row : A → Type 0) (Before : A → A → Type 0) → Orders form next start Row Before → (s : S) (xs : List A) → EachFits form next s xs → (i : ℕ) (d : A) → suc i < length xs → Before (get_or xs i d) (get_or xs (suc i) d)
rise form next start Row Before o s [] each i d lt = absurd (omega arith)
rise form next start Row Before o s (x ∷ []) each i d lt = absurd (omega arith)
rise form next start Row Before o s (x ∷ y ∷ ys) each zero d lt = o.behind x y each.1.0
rise form next start Row Before o s (x ∷ y ∷ ys) each (suc i) d lt = rise form next start Row Before o (next x) (y ∷ ys) each.1 i d (omega arith)

fit_behind : {S A : Type 0} (form : S → Form A) (next : A → S) (start : S) (Row : A → Type 0) (Before : A → A → Type 0) → Orders form next start Row Before → (x : A) (xs : List A) → All Row xs → ((i : ℕ) (d : A) → suc i < length (x ∷ xs) → Before (get_or (x ∷ xs) i d) (get_or (x ∷ xs) (suc i) d)) → EachFits form next (next x) xs
fit_behind form next start Row Before o x [] all rising = tt
fit_behind form next start Row Before o x (y ∷ ys) all rising = (
  o.fits x y (All-head Row y ys all) (rising zero x (omega arith)),
  fit_behind form next start Row Before o y ys (All-tail Row y ys all) (λ i d lt. rising (suc i) d (omega arith)),
)

fit : {S A : Type 0} (form : S → Form A) (next : A → S) (start : S) (Row : A → Type 0) (Before : A → A → Type 0) → Orders form next start Row Before → (xs : List A) → All Row xs → ((i : ℕ) (d : A) → suc i < length xs → Before (get_or xs i d) (get_or xs (suc i) d)) → EachFits form next start xs
fit form next start Row Before o [] all rising = tt
fit form next start Row Before o (x ∷ xs) all rising = (o.first x (All-head Row x xs all), fit_behind form next start Row Before o x xs (All-tail Row x xs all) rising)

-- the next place
by_suc : {A : Type 0} (Before : A → A → Type 0) (xs : List A) → IsRising Before xs → (i : ℕ) (d : A) → suc i < length xs → Before (get_or xs i d) (get_or xs (suc i) d)
by_suc Before xs rising i d lt = subst (λ j. Before (get_or xs i d) (get_or xs j d)) (add-one i) (rising i d (omega arith))

from_suc : {A : Type 0} (Before : A → A → Type 0) (xs : List A) → ((i : ℕ) (d : A) → suc i < length xs → Before (get_or xs i d) (get_or xs (suc i) d)) → IsRising Before xs
from_suc Before xs rising i d lt = subst (λ j. Before (get_or xs i d) (get_or xs j d)) (sym (add-one i)) (rising i d (omega arith))

-- ---- prefixes

prefix_rows_order : Orders prefix_row prefix_of lowest IsPrefixRow (λ row next. PrefixBefore row.prefix next.prefix)
prefix_rows_order = record {
  lawful = λ low row fits. record { prefix = prefix_in_range low row.prefix fits.0; digest = fits.1 };
  behind = λ row next fits. prefix_behind row.prefix next.prefix fits.0;
  fits = λ row next is before. (prefix_fits row.prefix next.prefix is.prefix before, is.digest);
  first = λ row is. (prefix_fits lowest row.prefix is.prefix (inl (empty_before row.prefix.prefix is.prefix.0.0)), is.digest);
}

pub prefixes_rise : (rows : List PrefixDigest) → prefixes.Fits rows ↔ ArePrefixRows rows
prefixes_rise rows = (
  (λ fits. record {
    few = list_most 0 8192 prefix_row prefix_of lowest rows fits;
    lawful = all_lawful prefix_row prefix_of lowest IsPrefixRow (λ row next. PrefixBefore row.prefix next.prefix) prefix_rows_order lowest rows fits.1.1;
    rising = from_suc (λ row next. PrefixBefore row.prefix next.prefix) rows (rise prefix_row prefix_of lowest IsPrefixRow (λ row next. PrefixBefore row.prefix next.prefix) prefix_rows_order lowest rows fits.1.1);
  }),
  (λ are. list_fits 0 8192 prefix_row prefix_of lowest rows (omega arith) (omega arith) are.few
      (fit prefix_row prefix_of lowest IsPrefixRow (λ row next. PrefixBefore row.prefix next.prefix) prefix_rows_order rows are.lawful (by_suc (λ row next. PrefixBefore row.prefix next.prefix) rows are.rising))),
)

-- ---- keys

key_fits : (low : List ℕ) (row : KeyDigest) → IsKeyRow row → BytesBefore low row.key → (key_row low).Fits row
key_fits low row is before = (named_fits 1 256 (is_before low) row.key (omega arith) is.key.0 is.key.1 (ap is_lt ((bytes_before (bytes_cmp low row.key) low row.key refl).1 before)), is.digest)

key_rows_order : Orders key_row key_bytes [] IsKeyRow (λ row next. BytesBefore row.key next.key)
key_rows_order = record {
  lawful = λ low row fits. record { key = named_range 1 256 (is_before low) row.key fits.0; digest = fits.1 };
  behind = λ row next fits. (bytes_before (bytes_cmp row.key next.key) row.key next.key refl).0 (less_from_is_lt (bytes_cmp row.key next.key) fits.0.1.1);
  fits = λ row next is before. key_fits row.key next is before;
  first = λ row is. key_fits [] row is (empty_before row.key is.key.0);
}

pub keys_rise : (rows : List KeyDigest) → keys.Fits rows ↔ AreKeyRows rows
keys_rise rows = (
  (λ fits. record {
    few = list_most 0 8192 key_row key_bytes [] rows fits;
    lawful = all_lawful key_row key_bytes [] IsKeyRow (λ row next. BytesBefore row.key next.key) key_rows_order [] rows fits.1.1;
    rising = from_suc (λ row next. BytesBefore row.key next.key) rows (rise key_row key_bytes [] IsKeyRow (λ row next. BytesBefore row.key next.key) key_rows_order [] rows fits.1.1);
  }),
  (λ are. list_fits 0 8192 key_row key_bytes [] rows (omega arith) (omega arith) are.few
      (fit key_row key_bytes [] IsKeyRow (λ row next. BytesBefore row.key next.key) key_rows_order rows are.lawful (by_suc (λ row next. BytesBefore row.key next.key) rows are.rising))),
)

-- ---- far apart

far : {A : Type 0} (Before : A → A → Type 0) → ((x y z : A) → Before x y → Before y z → Before x z) → (xs : List A) → IsRising Before xs → (n i j : ℕ) (d : A) → j ≡ suc (n + i) → j < length xs → Before (get_or xs i d) (get_or xs j d)
far Before chain xs rising zero i j d is lt =
    let next : j ≡ suc i = omega (arith, is) in
    subst (λ k. Before (get_or xs i d) (get_or xs k d)) (sym next) (by_suc Before xs rising i d (omega arith))
far Before chain xs rising (suc n) i j d is lt =
    let next : j ≡ suc (suc (n + i)) = omega (arith, is) in
    subst (λ k. Before (get_or xs i d) (get_or xs k d)) (sym next)
    (chain (get_or xs i d) (get_or xs (suc (n + i)) d) (get_or xs (suc (suc (n + i))) d) (far Before chain xs rising n i (suc (n + i)) d refl (omega arith)) (by_suc Before xs rising (suc (n + i)) d (omega arith)))

throughout : {A : Type 0} (Before : A → A → Type 0) → ((x y z : A) → Before x y → Before y z → Before x z) → (xs : List A) → IsRising Before xs → IsRisingThroughout Before xs
throughout Before chain xs rising i j d before lt = far Before chain xs rising (j - suc i) i j d (omega arith) lt

bytes_chain : (xs ys zs : List ℕ) → BytesBefore xs ys → BytesBefore ys zs → BytesBefore xs zs
bytes_chain xs ys zs one two =
    (bytes_before (bytes_cmp xs zs) xs zs refl).0 (nat_list_cmp_total.trans xs ys zs ((bytes_before (bytes_cmp xs ys) xs ys refl).1 one) ((bytes_before (bytes_cmp ys zs) ys zs refl).1 two))

prefix_chain : (p q r : Prefix) → PrefixBefore p q → PrefixBefore q r → PrefixBefore p r
prefix_chain p q r one two =
    let total : IsTotalOrder prefix_cmp = then_total (on_total (λ (p : Prefix). p.prefix) nat_list_cmp_total) (on_total (λ (p : Prefix). p.sub) nat_list_cmp_total) in
    (prefix_before (prefix_cmp p r) p r refl).0 (total.trans p q r ((prefix_before (prefix_cmp p q) p q refl).1 one) ((prefix_before (prefix_cmp q r) q r refl).1 two))

pub prefixes_rise_throughout : (rows : List PrefixDigest) → prefixes.Fits rows → IsRisingThroughout (λ row later. PrefixBefore row.prefix later.prefix) rows
prefixes_rise_throughout rows fits =
    throughout (λ row later. PrefixBefore row.prefix later.prefix) (λ r s t. prefix_chain r.prefix s.prefix t.prefix) rows ((prefixes_rise rows).0 fits).rising

pub keys_rise_throughout : (rows : List KeyDigest) → keys.Fits rows → IsRisingThroughout (λ row later. BytesBefore row.key later.key) rows
keys_rise_throughout rows fits =
    throughout (λ row later. BytesBefore row.key later.key) (λ r s t. bytes_chain r.key s.key t.key) rows ((keys_rise rows).0 fits).rising
