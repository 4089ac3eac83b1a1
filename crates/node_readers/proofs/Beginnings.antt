-- Beginnings of one list.
use Rattle.std.proofs.Common.{◌≡◌, ℕ, ◌≤◌, true, false, leb, MatchBool, List, [], ◌∷◌, ◌++◌, length, refl, ap, sym, ◌∙◌, arith, append_assoc, length-append, ◌⊎◌, inl, inr, ⊎_elim}
use Rattle.std.proofs.lemmas.Bool.{leb-false}
use mathlib.Core.List.{IsPrefix}

-- each list begins with itself
pub prefix_self : {A : Type 0} (xs : List A) → IsPrefix xs xs
prefix_self [] = ([], refl)
prefix_self (x ∷ xs) = ((prefix_self xs).0, ap (λ ys. x ∷ ys) (prefix_self xs).1)

pub prefix_trans : {A : Type 0} (xs ys zs : List A) → IsPrefix xs ys → IsPrefix ys zs → IsPrefix xs zs
prefix_trans xs ys zs p q = (p.0 ++ q.0, sym (append_assoc xs p.0 q.0) ∙ (ap (λ w. w ++ q.0) p.1 ∙ q.1))

-- of two beginnings of one list the shorter begins the longer
pub prefix_shorter : {A : Type 0} (xs ys zs : List A) → IsPrefix xs zs → IsPrefix ys zs → length xs ≤ length ys → IsPrefix xs ys
prefix_shorter [] ys zs p q le = (ys, refl)
prefix_shorter (x ∷ xs) [] zs p q le = absurd (omega arith)
prefix_shorter (x ∷ xs) (y ∷ ys) [] p q le = absurd (cc (p.1))
prefix_shorter (x ∷ xs) (y ∷ ys) (z ∷ zs) p q le =
    let heads : x ≡ y = cc (p.1, q.1) in
    let rest = prefix_shorter xs ys zs (p.0, cc (p.1)) (q.0, cc (q.1)) (omega arith) in
    (rest.0, cc (heads, rest.1))

-- a beginning as long as the whole is the whole
pub prefix_whole : {A : Type 0} (xs ys : List A) → IsPrefix xs ys → length ys ≤ length xs → xs ≡ ys
prefix_whole [] [] p le = refl
prefix_whole [] (y ∷ ys) p le = absurd (omega arith)
prefix_whole (x ∷ xs) [] p le = absurd (cc (p.1))
prefix_whole (x ∷ xs) (y ∷ ys) p le =
    let rest = prefix_whole xs ys (p.0, cc (p.1)) (omega arith) in cc (p.1, rest)

-- of two beginnings of one list the first begins the second, unless the second is as short
pub begins_otherwise : {A : Type 0} (xs ys zs : List A) (m n : ℕ) → m ≡ length xs → n ≡ length ys → IsPrefix xs zs → IsPrefix ys zs
    → MatchBool (leb n m) (Unit {0}) (IsPrefix xs ys)
begins_otherwise xs ys zs m n here there p q =
    elim (leb n m) as (λ b. leb n m ≡ b → MatchBool b (Unit {0}) (IsPrefix xs ys)) [
      | true ↦ λ e. tt
      | false ↦ λ e. prefix_shorter xs ys zs p q (omega (arith, leb-false n m e, here, there))
    ] refl

-- nothing but nothing begins nothing
pub prefix_nil : {A : Type 0} (xs : List A) → IsPrefix xs [] → xs ≡ []
prefix_nil [] p = refl
prefix_nil (x ∷ xs) p = absurd (cc (p.1))

-- a beginning of a list with one more element is a beginning of the list, or all of it
pub prefix_snoc : {A : Type 0} (xs ys : List A) (y : A) → IsPrefix xs (ys ++ y ∷ []) → IsPrefix xs ys ⊎ (xs ≡ ys ++ y ∷ [])
prefix_snoc [] ys y p = inl (ys, refl)
prefix_snoc (x ∷ []) [] y p = inr (cc (p.1))
prefix_snoc (x ∷ (x' ∷ xs)) [] y p = absurd (cc (p.1))
prefix_snoc (x ∷ xs) (z ∷ ys) y p =
    let heads : x ≡ z = cc (p.1) in
    ⊎_elim (λ (q : IsPrefix xs ys). inl (q.0, cc (heads, q.1))) (λ (e : xs ≡ ys ++ y ∷ []). inr (cc (heads, e))) (prefix_snoc xs ys y (p.0, cc (p.1)))
