-- A map that is written in place, one element after another.
use Rattle.std.proofs.Common.{◌≡◌, ℕ, ◌+◌, ◌<◌, List, [], ◌∷◌, ◌++◌, length, map, take, drop, set, get_or, refl, sym, ap, ◌∙◌, arith, zero, suc, add-one, length-set}

pub set_next : {X : Type 0} (f : X → X) (xs : List X) (i : ℕ) (d : X) → i < length xs
    → set (map f (take i xs) ++ drop i xs) i (f (get_or xs i d)) ≡ map f (take (suc i) xs) ++ drop (suc i) xs
set_next f [] i d l = absurd (omega arith)
set_next f (x ∷ xs) zero d l = refl
set_next f (x ∷ xs) (suc i) d l = ap (λ ys. f x ∷ ys) (set_next f xs i d (omega arith))

pub get_next : {X : Type 0} (f : X → X) (xs : List X) (i : ℕ) (d : X) → i < length xs → get_or (map f (take i xs) ++ drop i xs) i d ≡ get_or xs i d
get_next f [] i d l = absurd (omega arith)
get_next f (x ∷ xs) zero d l = refl
get_next f (x ∷ xs) (suc i) d l = get_next f xs i d (omega arith)

pub next_written : {X : Type 0} (f : X → X) (xs ys : List X) (i : ℕ) (old new : X) → i < length ys → length ys ≡ length xs → ys ≡ map f (take i xs) ++ drop i xs
    → old ≡ get_or ys i old → new ≡ f old → (length (set ys i new) ≡ length xs) × (set ys i new ≡ map f (take (i + 1) xs) ++ drop (i + 1) xs)
next_written f xs ys i old new l same done read made =
    let within : i < length xs = omega arith in
    let was : old ≡ get_or xs i old = read ∙ ap (λ zs. get_or zs i old) done ∙ get_next f xs i old within in (
      length-set ys i new ∙ same,
      ap (λ v. set ys i v) (made ∙ ap f was) ∙ ap (λ zs. set zs i (f (get_or xs i old))) done ∙ set_next f xs i old within ∙
          ap (λ n. map f (take n xs) ++ drop n xs) (sym (add-one i)),
    )
