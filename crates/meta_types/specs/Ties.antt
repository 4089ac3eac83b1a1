-- Lemmas that impls cite: two values tie in their order exactly if they are equal, and tests of the
-- parts of a fact together decide the fact.
use Rattle.std.proofs.Common.{ℕ, ◌≡◌, ◌&&◌, ◌==◌, Bool, List, Option, Some, None, nat_eq, refl, sym, ◌∙◌}
use Rattle.std.specs.Bool.{Decides}
use Rattle.std.specs.declared.cmp.Ordering.{Ordering}
use Rattle.std.specs.declared.cmp.Ordering.TheVariants.{Less, Equal, Greater}
use Rattle.std.specs.Ordering.{nat_cmp, ordering_then, is_eq}
use Rattle.std.specs.Option.{option_cmp, option_eq}
use Rattle.std.specs.Cmp.{unsigned_ties, first_so, second_so}
use Rattle.std.specs.Cmp.Lexicographic.{texts_ties, pointwise}
use Rattle.meta_types.specs.Value.{ValueParts}
use Rattle.meta_types.specs.Order.{bytes_cmp, value_cmp}

is_eq-then : (o p : Ordering) → is_eq (ordering_then o p) ≡ (is_eq o && is_eq p)
is_eq-then Less p = refl
is_eq-then Equal p = refl
is_eq-then Greater p = refl

body_ties : (v w : Option (List ℕ))
    → option_eq (pointwise nat_eq) v w ≡ is_eq (option_cmp bytes_cmp v w)
body_ties None None = refl
body_ties None (Some ys) = refl
body_ties (Some xs) None = refl
body_ties (Some xs) (Some ys) = texts_ties xs ys

pub value_ties : (v w : ValueParts)
    → ((v.stamp == w.stamp) && option_eq (pointwise nat_eq) v.body w.body) ≡ is_eq (value_cmp v w)
value_ties v w =
    (λ i. unsigned_ties v.stamp w.stamp i && body_ties v.body w.body i)
    ∙ sym (is_eq-then (nat_cmp v.stamp w.stamp) (option_cmp bytes_cmp v.body w.body))

-- two tests, each of which decides a fact, together decide the fact that both facts make up
pub both_decide : {P Q R : Type 0} (s t : Bool) → Decides s P → Decides t Q
    → (P → Q → R) → (R → P) → (R → Q) → Decides (s && t) R
both_decide s t d e whole left right = (
  (λ h. whole (d.0 (first_so s t h)) (e.0 (second_so s t h))),
  (λ r i. d.1 (left r) i && e.1 (right r) i),
)
