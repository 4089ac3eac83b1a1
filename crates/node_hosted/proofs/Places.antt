-- A list with one element set, or put after the last.
use Rattle.std.proofs.Common.{◌≡◌, ◌≢◌, ℕ, zero, suc, ◌<◌, List, [], ◌∷◌, ◌++◌, length, slice_get, slice_set, Some, refl, ap, arith}

pub set_same : {A : Type 0} (xs : List A) (p : ℕ) (y : A) → p < length xs → slice_get (slice_set xs p y) p ≡ Some y
set_same [] p y low = absurd (omega arith)
set_same (x ∷ xs) zero y low = refl
set_same (x ∷ xs) (suc p) y low = set_same xs p y (omega arith)

pub set_other : {A : Type 0} (xs : List A) (p k : ℕ) (y : A) → k ≢ p → slice_get (slice_set xs p y) k ≡ slice_get xs k
set_other [] p k y other = refl
set_other (x ∷ xs) zero zero y other = absurd (other refl)
set_other (x ∷ xs) zero (suc k) y other = refl
set_other (x ∷ xs) (suc p) zero y other = refl
set_other (x ∷ xs) (suc p) (suc k) y other = set_other xs p k y (λ e. other (ap suc e))

pub put_last : {A : Type 0} (xs : List A) (p : ℕ) (y : A) → p ≡ length xs → slice_get (xs ++ y ∷ []) p ≡ Some y
put_last [] zero y last = refl
put_last [] (suc p) y last = absurd (omega (arith, last))
put_last (x ∷ xs) zero y last = absurd (omega (arith, last))
put_last (x ∷ xs) (suc p) y last = put_last xs p y (omega (arith, last))

pub put_other : {A : Type 0} (xs : List A) (p k : ℕ) (y : A) → p ≡ length xs → k ≢ p → slice_get (xs ++ y ∷ []) k ≡ slice_get xs k
put_other [] zero zero y last other = absurd (other refl)
put_other [] zero (suc k) y last other = refl
put_other [] (suc p) k y last other = absurd (omega (arith, last))
put_other (x ∷ xs) zero k y last other = absurd (omega (arith, last))
put_other (x ∷ xs) (suc p) zero y last other = refl
put_other (x ∷ xs) (suc p) (suc k) y last other = put_other xs p k y (omega (arith, last)) (λ e. other (ap suc e))
