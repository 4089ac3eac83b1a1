-- Views by their places, the parcels of one sender, and functions changed at one place.
use Rattle.std.proofs.Common.{◌≡◌, ◌≢◌, ◌==◌, ℕ, zero, suc, true, false, Bool, List, [], ◌∷◌, ◌++◌, length, set, sym, refl, ap, subst, ⊎_elim, ◌⊎◌, inl, inr, arith, if◌then◌else◌}
use Rattle.std.proofs.lemmas.Bool.Decides.{nat_tests}
use mathlib.Core.Option.{some, some-ne-none, some-injective}
use lib.ListN.{get_elem?}
use Rattle.crossbeam_queue.proofs.Lists.{at_set}
use Rattle.inbox.specs.declared.parcel.Parcel.{Parcel}
use Rattle.inbox.specs.declared.rule.Knowledge.{Knowledge}
use Rattle.inbox.specs.Parcels.{parcels_of}

-- what stands in a list one longer stands in the list, or is the last
pub snoc_at : (l : List Knowledge) (a b : Knowledge) (j : ℕ)
    → get_elem? (l ++ a ∷ []) j ≡ some b
    → (get_elem? l j ≡ some b) ⊎ ((j ≡ length l) × (a ≡ b))
snoc_at [] a b zero e = inr (refl, some-injective a b e)
snoc_at [] a b (suc j) e = absurd (some-ne-none b (sym e))
snoc_at (x ∷ xs) a b zero e = inl e
snoc_at (x ∷ xs) a b (suc j) e =
    ⊎_elim (λ h. inl h) (λ (h : (j ≡ length xs) × (a ≡ b)). inr (ap suc h.0, h.1))
    (snoc_at xs a b j e)

abbrev pub Each : (ℕ → Knowledge → Type 0) → List Knowledge → Type 0
Each F views = (place : ℕ) (v : Knowledge) → get_elem? views place ≡ some v → F place v

-- if one view is changed, all are as they have to be if it is and the others are
pub each_set : (F : ℕ → Knowledge → Type 0) (views : List Knowledge) (place : ℕ) (w : Knowledge)
    → F place w
    → ((j : ℕ) (u : Knowledge) → j ≢ place → get_elem? views j ≡ some u → F j u)
    → Each F (set views place w)
each_set F views place w mine others j u e =
    ⊎_elim (λ (x : (j ≡ place) × (w ≡ u)).
    subst (λ (y : ℕ × Knowledge). F y.0 y.1) (λ i. (sym x.0 i, x.1 i)) mine)
    (λ (x : (j ≢ place) × (get_elem? views j ≡ some u)). others j u x.0 x.1)
    (at_set views place j w u e)

pick_append : (b : Bool) (x : Parcel) (all here there : List Parcel) → all ≡ here ++ there
    → (if b then x ∷ all else all) ≡ (if b then x ∷ here else here) ++ there
pick_append true x all here there is = ap (λ l. x ∷ l) is
pick_append false x all here there is = is

pub parcels_of-append : (p : ℕ) (xs ys : List Parcel)
    → parcels_of p (xs ++ ys) ≡ parcels_of p xs ++ parcels_of p ys
parcels_of-append p [] ys = refl
parcels_of-append p (x ∷ xs) ys =
    pick_append (x.from == p) x (parcels_of p (xs ++ ys)) (parcels_of p xs) (parcels_of p ys)
    (parcels_of-append p xs ys)

pub parcels_of_own : (p : ℕ) (x : Parcel) → x.from ≡ p → parcels_of p (x ∷ []) ≡ x ∷ []
parcels_of_own p x is = grind (arith, nat_tests)

pub parcels_of_other : (p : ℕ) (x : Parcel) → x.from ≢ p → parcels_of p (x ∷ []) ≡ []
parcels_of_other p x not = grind (arith, nat_tests)

-- f, but a at k
abbrev pub changed : {A : Type 0} → ℕ → A → (ℕ → A) → ℕ → A
changed k a f p = if p == k then a else f p

pub changed_here : {A : Type 0} (k : ℕ) (a : A) (f : ℕ → A) → changed k a f k ≡ a
changed_here k a f = grind (arith, nat_tests)

pub changed_else : {A : Type 0} (k : ℕ) (a : A) (f : ℕ → A) (p : ℕ) → p ≢ k
    → changed k a f p ≡ f p
changed_else k a f p not = grind (arith, nat_tests)
