-- Objects of the same shape.
use Rattle.std.proofs.Common.{◌≡◌, suc, ◌==◌, ◌&&◌, true, false, List, [], ◌∷◌, length, refl, ap}
use Rattle.std.specs.Bool.{Decides}
use Rattle.std.proofs.Math.Bool.{and-false}
use Rattle.std.proofs.lemmas.Bool.{eqb-true, eq-eqb, and_parts}
use Rattle.dvvset.specs.Object.{Entry}
use Rattle.dvvset.specs.Clock.{same}
use Rattle.dvvset.specs.Writer.{Shape, shape_of, shapes}

-- lists of other lengths are not the same
pub same_lengths : (a b : List Entry) → (length a ≡ length b → ⊥) → same a b ≡ false
same_lengths [] [] other = absurd (other refl)
same_lengths [] (y ∷ ys) other = refl
same_lengths (x ∷ xs) [] other = refl
same_lengths (x ∷ xs) (y ∷ ys) other =
    let rest = same_lengths xs ys (λ e. other (ap suc e)) in
    rw rest (and-false _)

same_shape : (x y : Entry) → ((x.id == y.id) && ((x.count == y.count) && (length x.values == length y.values))) ≡ true
    → shape_of x ≡ shape_of y
same_shape x y e =
    let a = and_parts (x.id == y.id) _ e in
    let b = and_parts (x.count == y.count) _ a.1 in
    let id = eqb-true x.id y.id a.0 in
    let count = eqb-true x.count y.count b.0 in
    let values = eqb-true (length x.values) (length y.values) b.1 in
    λ i. record { id = id i; count = count i; shown = values i }

same-shapes : (a b : List Entry) → same a b ≡ true → shapes a ≡ shapes b
same-shapes [] [] e = refl
same-shapes [] (y ∷ ys) e = cc e
same-shapes (x ∷ xs) [] e = cc e
same-shapes (x ∷ xs) (y ∷ ys) e =
    let parts = and_parts _ (same xs ys) e in
    let first : shape_of x ≡ shape_of y = same_shape x y parts.0 in
    let rest = same-shapes xs ys parts.1 in
    λ i. first i ∷ rest i

shapes-same : (a b : List Entry) → shapes a ≡ shapes b → same a b ≡ true
shapes-same [] [] e = refl
shapes-same [] (y ∷ ys) e = cc e
shapes-same (x ∷ xs) [] e = cc e
shapes-same (x ∷ xs) (y ∷ ys) e =
    let first : shape_of x ≡ shape_of y = cc e in
    let id : x.id ≡ y.id = ap (λ (s : Shape). s.id) first in
    let count : x.count ≡ y.count = ap (λ (s : Shape). s.count) first in
    let values : length x.values ≡ length y.values = ap (λ (s : Shape). s.shown) first in
    let rest : shapes xs ≡ shapes ys = cc e in
    rw (eq-eqb x.id y.id id, eq-eqb x.count y.count count, eq-eqb (length x.values) (length y.values) values, shapes-same xs ys rest) refl

pub same-Decides : (a b : List Entry) → Decides (same a b) (shapes a ≡ shapes b)
same-Decides a b = (same-shapes a b, shapes-same a b)
