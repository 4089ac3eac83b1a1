-- What stands in a list that grew.
use Rattle.std.proofs.Common.{◌≡◌, ◌≢◌, ◌<◌, ◌+◌, ℕ, zero, suc, List, [], ◌∷◌, ◌++◌, length, take, drop, set, slice_get, Some, All, refl, subst, ap, ◌∙◌, arith}
use Rattle.std.proofs.lemmas.List.Elements.{All-head, All-tail}
use Rattle.world_core.specs.Numbers.{numbered}

pub get_more : {A : Type 0} (xs ys : List A) (n : ℕ) (x : A) → slice_get xs n ≡ Some x
    → slice_get (xs ++ ys) n ≡ Some x
get_more [] ys n x h = absurd (cc)
get_more (y ∷ xs) ys zero x h = h
get_more (y ∷ xs) ys (suc n) x h = get_more xs ys n x h

pub get_last : {A : Type 0} (xs : List A) (x : A)
    → slice_get (xs ++ x ∷ []) (length xs) ≡ Some x
get_last [] x = refl
get_last (y ∷ xs) x = get_last xs x

get_behind : {A : Type 0} (xs ys : List A) (n : ℕ)
    → slice_get (xs ++ ys) (length xs + n) ≡ slice_get ys n
get_behind [] ys n =
    let e : 0 + n ≡ n = omega arith in
    ap (λ k. slice_get ys k) e
get_behind (x ∷ xs) ys n =
    let e : suc (length xs) + n ≡ suc (length xs + n) = omega arith in
    ap (λ k. slice_get (x ∷ (xs ++ ys)) k) e ∙ get_behind xs ys n

pub numbered_more : {A : Type 0} (xs ys : List A) (n : ℕ) (x : A) → numbered xs n ≡ Some x
    → numbered (xs ++ ys) n ≡ Some x
numbered_more xs ys zero x h = absurd (cc)
numbered_more xs ys (suc n) x h = get_more xs ys n x h

pub numbered_behind : {A : Type 0} (xs ys : List A) (n : ℕ)
    → numbered (xs ++ ys) ((length xs + 1) + n) ≡ slice_get ys n
numbered_behind xs ys n =
    let e : (length xs + 1) + n ≡ suc (length xs + n) = omega arith in
    ap (λ k. numbered (xs ++ ys) k) e ∙ get_behind xs ys n

pub numbered_last : {A : Type 0} (xs : List A) (x : A)
    → numbered (xs ++ x ∷ []) (length xs + 1) ≡ Some x
numbered_last xs x =
    let e : length xs + 1 ≡ suc (length xs) = omega arith in
    ap (λ k. numbered (xs ++ x ∷ []) k) e ∙ get_last xs x

pub set_other : {A : Type 0} (xs : List A) (n m : ℕ) (x : A) → m ≢ n
    → slice_get (set xs n x) m ≡ slice_get xs m
set_other [] n m x ne = refl
set_other (y ∷ xs) zero zero x ne = absurd (ne refl)
set_other (y ∷ xs) zero (suc m) x ne = refl
set_other (y ∷ xs) (suc n) zero x ne = refl
set_other (y ∷ xs) (suc n) (suc m) x ne = set_other xs n m x (λ e. ne (ap (λ k. suc k) e))

pub set_same : {A : Type 0} (xs : List A) (n : ℕ) (x : A) → n < length xs
    → slice_get (set xs n x) n ≡ Some x
set_same [] n x lt = absurd (omega arith)
set_same (y ∷ xs) zero x lt = refl
set_same (y ∷ xs) (suc n) x lt = set_same xs n x (omega arith)

pub take_here : {A : Type 0} (xs : List A) (p : ℕ) (e : A) → slice_get xs p ≡ Some e
    → take (suc p) xs ≡ take p xs ++ e ∷ []
take_here [] p e h = absurd (cc)
take_here (x ∷ xs) zero e h =
    let is : x ≡ e = cc in
    ap (λ y. y ∷ []) is
take_here (x ∷ xs) (suc p) e h = ap (λ l. x ∷ l) (take_here xs p e h)

pub split_here : {A : Type 0} (xs : List A) (p : ℕ) (e : A) → slice_get xs p ≡ Some e
    → xs ≡ take p xs ++ (e ∷ drop (suc p) xs)
split_here [] p e h = absurd (cc)
split_here (x ∷ xs) zero e h =
    let is : x ≡ e = cc in
    ap (λ y. y ∷ xs) is
split_here (x ∷ xs) (suc p) e h = ap (λ l. x ∷ l) (split_here xs p e h)

-- what holds of each element holds of the one at a place
pub all_at : {A : Type 0} (P : A → Type 0) (xs : List A) (p : ℕ) (e : A) → All P xs
    → slice_get xs p ≡ Some e → P e
all_at P [] p e all h = absurd (cc)
all_at P (x ∷ xs) zero e all h =
    let is : x ≡ e = cc in
    subst P is (All-head P x xs all)
all_at P (x ∷ xs) (suc p) e all h = all_at P xs p e (All-tail P x xs all) h
