-- Whether an object shows a value.
use Rattle.std.proofs.Common.{◌≡◌, ℕ, zero, suc, ◌<◌, ◌==◌, false, List, [], ◌∷◌, ◌++◌, length, get_or, refl, sym, ap, ◌∙◌, arith}
use Rattle.std.proofs.lemmas.Bool.{eq-eqb}
use Rattle.std.proofs.lemmas.List.Concat.{flat_map-cons}
use Rattle.dvvset.specs.Object.{Entry}
use Rattle.dvvset.specs.Clock.{values_of}

front_none : {A : Type 0} (xs ys : List A) → xs ++ ys ≡ [] → xs ≡ []
front_none [] ys e = refl
front_none (x ∷ xs) ys e = cc e

pub back_none : {A : Type 0} (xs ys : List A) → xs ++ ys ≡ [] → ys ≡ []
back_none [] ys e = e
back_none (x ∷ xs) ys e = cc e

-- an entry with a value is among them
pub shows_at : (es : List Entry) (i : ℕ) (e : Entry) → i < length es → e ≡ get_or es i e → (e.values ≡ [] → ⊥) → values_of es ≡ [] → ⊥
shows_at [] i e lt is some none = absurd (omega arith)
shows_at (x ∷ xs) zero e lt is some none =
    some (ap (λ (y : Entry). y.values) is ∙ front_none x.values (values_of xs) (sym (flat_map-cons (λ (y : Entry). y.values) x xs) ∙ none))
shows_at (x ∷ xs) (suc i) e lt is some none =
    shows_at xs i e (omega arith) is some (back_none x.values (values_of xs) (sym (flat_map-cons (λ (y : Entry). y.values) x xs) ∙ none))

pub not_none : {A : Type 0} (xs : List A) → xs ≡ [] → false ≡ (length xs == 0) → ⊥
not_none xs none some = let zero_len : length xs ≡ 0 = ap length none in cc (some ∙ eq-eqb (length xs) 0 zero_len)
