-- Parcels are counted sender by sender.
use Rattle.std.proofs.Common.{◌≡◌, ◌==◌, ◌||◌, ◌+◌, ℕ, nat_eq, Bool, true, false, cond, List, [], ◌∷◌, refl, sym, ap, ◌∙◌, arith, sum_by, count_by, if◌then◌else◌, zero-add}
use Rattle.std.proofs.lemmas.Bool.Decides.{nat_tests}
use Rattle.std.proofs.lemmas.List.Sums.{sum_by-cons}
use Rattle.std.proofs.lemmas.Map.Keys.{IsDistinct-head, IsDistinct-tail}
use Rattle.std.specs.List.{AllByRecursion, IsDistinct, list_any}
use Rattle.inbox.specs.declared.parcel.Parcel.{Parcel}
use Rattle.inbox.specs.Parcels.{parcels_of}

-- 1 if the parcel passes the test
abbrev one_if : (Parcel → Bool) → Parcel → ℕ
one_if test x = cond (test x) 1 0

-- how many parcels of a sender pass the test
abbrev pub found : (Parcel → Bool) → List Parcel → ℕ → ℕ
found test all p = count_by test (parcels_of p all)

count_pick : (test : Parcel → Bool) (b : Bool) (x : Parcel) (l : List Parcel)
    → count_by test (if b then x ∷ l else l) ≡ cond b (one_if test x) 0 + count_by test l
count_pick test true x l = sum_by-cons (one_if test) x l
count_pick test false x l = sym (zero-add (count_by test l))

found-cons : (test : Parcel → Bool) (x : Parcel) (xs : List Parcel) (p : ℕ)
    → found test (x ∷ xs) p ≡ cond (x.from == p) (one_if test x) 0 + found test xs p
found-cons test x xs p = count_pick test (x.from == p) x (parcels_of p xs)

-- t at this sender, and 0 at all others
abbrev only_at : ℕ → ℕ → ℕ → ℕ
only_at q t p = cond (q == p) t 0

sum_found-cons : (test : Parcel → Bool) (x : Parcel) (xs : List Parcel) (ps : List ℕ)
    → sum_by (found test (x ∷ xs)) ps
    ≡ sum_by (only_at x.from (one_if test x)) ps + sum_by (found test xs) ps
sum_found-cons test x xs [] = refl
sum_found-cons test x xs (p ∷ ps) = omega (
  arith,
  sum_by-cons (found test (x ∷ xs)) p ps,
  sum_by-cons (only_at x.from (one_if test x)) p ps,
  sum_by-cons (found test xs) p ps,
  found-cons test x xs p,
  sum_found-cons test x xs ps,
)

or_false : (a b : Bool) → (a || b) ≡ false → (a ≡ false) × (b ≡ false)
or_false true b h = absurd (cc)
or_false false b h = (refl, h)

or_other : (a b : Bool) → (a || b) ≡ true → a ≡ false → b ≡ true
or_other true b h no_a = absurd (cc)
or_other false b h no_a = h

not_among : (p : ℕ) (ps : List ℕ) → AllByRecursion (λ y. nat_eq p y ≡ false) ps
    → list_any (nat_eq p) ps ≡ false
not_among p [] h = refl
not_among p (q ∷ ps) h = (λ i. h.0 i || list_any (nat_eq p) ps) ∙ not_among p ps h.1

none_at : (q t : ℕ) (ps : List ℕ) → list_any (nat_eq q) ps ≡ false
    → sum_by (only_at q t) ps ≡ 0
none_at q t [] h = refl
none_at q t (p ∷ ps) h =
    let both = or_false (nat_eq q p) (list_any (nat_eq q) ps) h in
    let here : only_at q t p ≡ 0 = ap (λ b. cond b t 0) both.0 in
    omega (arith, sum_by-cons (only_at q t) p ps, here, none_at q t ps both.1)

-- of distinct senders one is this one
pub one_at : (q t : ℕ) (ps : List ℕ) → IsDistinct nat_eq ps → list_any (nat_eq q) ps ≡ true
    → sum_by (only_at q t) ps ≡ t
one_at q t [] once h = absurd (cc)
one_at q t (p ∷ ps) once h =
    by_head (q == p) refl (λ later. one_at q t ps (IsDistinct-tail nat_eq p ps once) later)
  where
    by_head : (b : Bool) → (q == p) ≡ b
        → (list_any (nat_eq q) ps ≡ true → sum_by (only_at q t) ps ≡ t)
        → sum_by (only_at q t) (p ∷ ps) ≡ t
    by_head true is rest =
        let same : q ≡ p = grind (arith, nat_tests) in
        let here : only_at q t p ≡ t = ap (λ b. cond b t 0) is in
        let none_later = ap (λ r. list_any (nat_eq r) ps) same
        ∙ not_among p ps (IsDistinct-head nat_eq p ps once) in
        omega (arith, sum_by-cons (only_at q t) p ps, here, none_at q t ps none_later)
    by_head false is rest =
        let here : only_at q t p ≡ 0 = ap (λ b. cond b t 0) is in
        let later = or_other (nat_eq q p) (list_any (nat_eq q) ps) h is in
        omega (arith, sum_by-cons (only_at q t) p ps, here, rest later)

-- the parcels are of these senders
abbrev pub AreFrom : List ℕ → List Parcel → Type 0
AreFrom ps [] = Unit {0}
AreFrom ps (x ∷ xs) = (list_any (nat_eq x.from) ps ≡ true) × AreFrom ps xs

none_found : (test : Parcel → Bool) (ps : List ℕ) → sum_by (found test []) ps ≡ 0
none_found test [] = refl
none_found test (p ∷ ps) =
    omega (arith, sum_by-cons (found test []) p ps, none_found test ps)

-- as many pass the test as of all senders together
pub count_by-senders : (test : Parcel → Bool) (ps : List ℕ) (all : List Parcel)
    → IsDistinct nat_eq ps → AreFrom ps all → count_by test all ≡ sum_by (found test all) ps
count_by-senders test ps [] once are = sym (none_found test ps)
count_by-senders test ps (x ∷ xs) once are = omega (
  arith,
  sum_by-cons (one_if test) x xs,
  sum_found-cons test x xs ps,
  one_at x.from (one_if test x) ps once are.0,
  count_by-senders test ps xs once are.1,
)
