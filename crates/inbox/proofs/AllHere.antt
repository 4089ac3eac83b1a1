-- All is here, once as many passes came back as were given.
use Rattle.std.proofs.Common.{◌≡◌, ◌==◌, ◌||◌, ◌<◌, ◌≤◌, ℕ, nat_eq, Bool, true, false, List, [], ◌∷◌, ◌++◌, length, refl, sym, ap, ◌∙◌, arith, sum_by, count_by, if◌then◌else◌, ⊎_elim, suc}
use Rattle.std.proofs.lemmas.Bool.{cases_lt}
use Rattle.std.proofs.lemmas.Bool.Decides.{nat_tests}
use Rattle.std.proofs.lemmas.List.Sums.{sum_by-cons}
use Rattle.std.proofs.lemmas.Map.Keys.{IsDistinct-cons}
use Rattle.std.proofs.lemmas.Map.Steps.{length-le_from_distinct_below}
use Rattle.std.specs.List.{AllByRecursion, IsDistinct, list_any}
use Rattle.inbox.specs.declared.parcel.Parcel.{Parcel}
use Rattle.inbox.specs.Balance.{senders_of, HasEach}
use Rattle.inbox.specs.Law.{put_count, CameBack, AllIsHere}
use Rattle.inbox.specs.Parcels.{parcels_of}
use Rattle.inbox.proofs.Counts.{found, AreFrom, count_by-senders}

abbrev BackList : Type 0
BackList = List (ℕ × List Parcel)

-- ---- each sender is among those whose passes came back

among_below : (made : ℕ) (all : List Parcel) (bs : BackList) → HasEach made bs all
    → (q : ℕ) → list_any (nat_eq q) (senders_of bs) ≡ true → q < made
among_below made all [] k q h = absurd (cc)
among_below made all (b ∷ bs) k q h =
    by_head (nat_eq q b.0) refl (λ later. among_below made all bs k.2 q later)
  where
    by_head : (t : Bool) → nat_eq q b.0 ≡ t
        → (list_any (nat_eq q) (senders_of bs) ≡ true → q < made) → q < made
    by_head true is rest =
        let same : q ≡ b.0 = grind (arith, nat_tests) in omega (arith, same, k.0)
    by_head false is rest =
        rest (sym (λ i. is i || list_any (nat_eq q) (senders_of bs)) ∙ h)

spread : (p : ℕ) (ps : List ℕ) → list_any (nat_eq p) ps ≡ false
    → AllByRecursion (λ y. nat_eq p y ≡ false) ps
spread p [] h = tt
spread p (q ∷ ps) h = by_head (nat_eq p q) (list_any (nat_eq p) ps) h (spread p ps)
  where
    by_head : {P : Type 0} (a b : Bool) → (a || b) ≡ false → (b ≡ false → P)
        → (a ≡ false) × P
    by_head true b h rest = absurd (cc)
    by_head false b h rest = (refl, rest h)

each_among : (made : ℕ) (all : List Parcel) (bs : BackList) → HasEach made bs all
    → IsDistinct nat_eq (senders_of bs) → length (senders_of bs) ≡ made
    → (p : ℕ) → p < made → list_any (nat_eq p) (senders_of bs) ≡ true
each_among made all bs k once is p less = by_test (list_any (nat_eq p) (senders_of bs)) refl
  where
    by_test : (t : Bool) → list_any (nat_eq p) (senders_of bs) ≡ t
        → list_any (nat_eq p) (senders_of bs) ≡ true
    by_test true h = h
    by_test false h =
        let more = IsDistinct-cons nat_eq p (senders_of bs) (spread p (senders_of bs) h) once in
        let all_below : (q : ℕ) → list_any (nat_eq q) (p ∷ senders_of bs) ≡ true → q < made =
        λ q among. by_head q (nat_eq q p) refl among in
        absurd (omega (
          arith,
          is,
          length-le_from_distinct_below (p ∷ senders_of bs) made more all_below,
        ))
      where
        by_head : (q : ℕ) (t : Bool) → nat_eq q p ≡ t
            → list_any (nat_eq q) (p ∷ senders_of bs) ≡ true → q < made
        by_head q true same among =
            let same' : q ≡ p = grind (arith, nat_tests) in omega (arith, same', less)
        by_head q false not among =
            among_below made all bs k q
            (sym (λ i. not i || list_any (nat_eq q) (senders_of bs)) ∙ among)

-- ---- each parcel is of one of them

empties : (b : Bool) (x : Parcel) (l : List Parcel) → (if b then x ∷ l else l) ≡ []
    → (b ≡ false) × (l ≡ [])
empties true x l h = absurd (cc)
empties false x l h = (refl, h)

are_from : (made : ℕ) (ps : List ℕ) (all : List Parcel)
    → ((p : ℕ) → made ≤ p → parcels_of p all ≡ [])
    → ((p : ℕ) → p < made → list_any (nat_eq p) ps ≡ true) → AreFrom ps all
are_from made ps [] no_other each = tt
are_from made ps (x ∷ xs) no_other each = (
  ⊎_elim (λ (h : x.from < made). each x.from h)
      (λ (h : made ≤ x.from). absurd (unlike x.from
      (empties (x.from == x.from) x (parcels_of x.from xs) (no_other x.from h)).0))
      (cases_lt x.from made),
  are_from made ps xs
      (λ p h. (empties (x.from == p) x (parcels_of p xs) (no_other p h)).1) each,
)
  where
    unlike : (n : ℕ) → (n == n) ≡ false → ⊥
    unlike n h = grind (arith, nat_tests)

-- ---- what was put by them

put_count-from : (test : Parcel → Bool) (made : ℕ) (all : List Parcel) (bs : BackList)
    → HasEach made bs all → sum_by (found test all) (senders_of bs) ≡ put_count test bs
put_count-from test made all [] k = refl
put_count-from test made all (b ∷ bs) k =
    let here : found test all b.0 ≡ count_by test b.1 = ap (count_by test) k.1 in
    omega (
      arith,
      here,
      sum_by-cons (found test all) b.0 (senders_of bs),
      sum_by-cons (λ (c : ℕ × List Parcel). count_by test c.1) b bs,
      put_count-from test made all bs k.2,
    )

-- the pass of the sender came back, and its parcels are what was put by it
abbrev IsFound : List Parcel → ℕ → BackList → Type 0
IsFound all p bs = (put : List Parcel) × (CameBack bs p put × (parcels_of p all ≡ put))

came_back : (made : ℕ) (all : List Parcel) (p : ℕ) (bs : BackList) → HasEach made bs all
    → list_any (nat_eq p) (senders_of bs) ≡ true
    → IsFound all p bs
came_back made all p [] k h = absurd (cc)
came_back made all p (b ∷ bs) k h =
    by_head (nat_eq p b.0) refl (λ later. came_back made all p bs k.2 later)
  where
    by_head : (t : Bool) → nat_eq p b.0 ≡ t
        → (list_any (nat_eq p) (senders_of bs) ≡ true → IsFound all p bs)
        → IsFound all p (b ∷ bs)
    by_head true is rest =
        let same : p ≡ b.0 = grind (arith, nat_tests) in (
          b.1,
          (
            record { before = []; after = bs; there = λ i. (sym same i, b.1) ∷ bs },
            ap (λ q. parcels_of q all) same ∙ k.1,
          ),
        )
    by_head false is rest =
        let r = rest (sym (λ i. is i || list_any (nat_eq p) (senders_of bs)) ∙ h) in (
          r.0,
          (
            record {
              before = b ∷ r.1.0.before;
              after = r.1.0.after;
              there = ap (λ l. b ∷ l) r.1.0.there;
            },
            r.1.1,
          ),
        )

length-senders : (bs : BackList) → length (senders_of bs) ≡ length bs
length-senders [] = refl
length-senders (b ∷ bs) = ap suc (length-senders bs)

pub all_here : AllIsHere
all_here v left balance is =
    let all = v.taken ++ left in
    let each = each_among v.made all v.back balance.each balance.once
    (length-senders v.back ∙ is) in
    record {
      as_often = λ test. count_by-senders test (senders_of v.back) all balance.once
          (are_from v.made (senders_of v.back) all balance.no_other each)
          ∙ put_count-from test v.made all v.back balance.each;
      in_order = λ p less. came_back v.made all p v.back balance.each (each p less);
    }
