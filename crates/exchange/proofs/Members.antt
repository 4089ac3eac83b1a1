-- What stands in a list.
use Rattle.std.proofs.Common.{◌≡◌, ◌≢◌, ℕ, zero, suc, ◌+◌, ◌<◌, ◌≤◌, Bool, true, false, cond, List, [], ◌∷◌, ◌++◌, map, inl, inr, ⊎_elim, refl, sym, ap, subst, ◌∙◌, arith}
use Rattle.std.specs.Prelude.{◌⊎◌, nat_eq}
use Rattle.std.specs.List.{filter, flat_map, range_with_len}

-- one of them is the thing itself
abbrev pub In : {A : Type 0} → A → List A → Type 0
In x [] = ⊥
In x (y ∷ ys) = (y ≡ x) ⊎ In x ys

-- of two lists, in the first
pub in_front : {A : Type 0} (x : A) (xs ys : List A) → In x xs → In x (xs ++ ys)
in_front x [] ys is = absurd is
in_front x (z ∷ zs) ys is = ⊎_elim inl (λ later. inr (in_front x zs ys later)) is

-- of two lists, in the second
pub in_back : {A : Type 0} (x : A) (xs ys : List A) → In x ys → In x (xs ++ ys)
in_back x [] ys is = is
in_back x (z ∷ zs) ys is = inr (in_back x zs ys is)

-- what one of them makes is among what all make
pub in_flat_map : {A B : Type 0} (f : A → List B) (x : A) (y : B) (xs : List A) → In x xs → In y (f x) → In y (flat_map f xs)
in_flat_map f x y [] is made = absurd is
in_flat_map f x y (z ∷ zs) is made =
    ⊎_elim
    (λ here. in_front y (f z) (flat_map f zs) (subst (λ w. In y (f w)) (sym here) made))
    (λ later. in_back y (f z) (flat_map f zs) (in_flat_map f x y zs later made))
    is

-- the image of one is among those of all
pub in_map : {A B : Type 0} (f : A → B) (x : A) (xs : List A) → In x xs → In (f x) (map f xs)
in_map f x [] is = absurd is
in_map f x (z ∷ zs) is = ⊎_elim (λ here. inl (ap f here)) (λ later. inr (in_map f x zs later)) is

-- what passes is kept
pub in_filter : {A : Type 0} (p : A → Bool) (x : A) (xs : List A) → In x xs → p x ≡ true → In x (filter p xs)
in_filter p x [] is passes = absurd is
in_filter p x (z ∷ zs) is passes =
    ⊎_elim
    (λ here. subst (λ b. In x (cond b (z ∷ filter p zs) (filter p zs))) (sym (ap p here ∙ passes)) (inl here))
    (λ later.
    let rest : In x (filter p zs) = in_filter p x zs later passes in
    elim (p z) as (λ b. In x (cond b (z ∷ filter p zs) (filter p zs))) [ true ↦ inr rest | false ↦ rest ])
    is

-- so many numbers from one on
pub in_range : (low count n : ℕ) → low ≤ n → n < low + count → In n (range_with_len low count)
in_range low zero n least less = absurd (omega arith)
in_range low (suc count) n least less =
    elim (nat_eq low n) as (λ b. nat_eq low n ≡ b → (low ≡ n) ⊎ In n (range_with_len (low + 1) count)) [
      | true ↦ λ is. inl (grind (arith))
      | false ↦ λ is. let apart : low ≢ n = grind (arith) in inr (in_range (low + 1) count n (omega arith) (omega arith))
    ] refl
