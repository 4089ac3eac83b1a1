-- Keys with the same bytes are equal.
use Rattle.std.proofs.Common.{◌≡◌, ℕ, true, List, [], ◌∷◌, sym, refl}
use Rattle.std.specs.Prelude.{◌&&◌, nat_eq}
use Rattle.std.specs.Cmp.Lexicographic.{pointwise, same_text}
use Rattle.std.proofs.lemmas.Bool.{and_parts, and_from, eq-eqb}
use Rattle.meta_types.specs.Name.{Key}
use Rattle.meta_types.specs.Equal.{key_eq}

pub pointwise-self : (xs : List ℕ) → pointwise nat_eq xs xs ≡ true
pointwise-self [] = refl
pointwise-self (x ∷ xs) = and_from (nat_eq x x) (pointwise nat_eq xs xs) (eq-eqb x x refl) (pointwise-self xs)

pub key_eq-true : (a b : Key) → key_eq a b ≡ true → a ≡ b
key_eq-true a b e =
    let outer : ((pointwise nat_eq a.prefix.prefix b.prefix.prefix && pointwise nat_eq a.prefix.sub b.prefix.sub) ≡ true) × (pointwise nat_eq a.key b.key ≡ true) =
    and_parts (pointwise nat_eq a.prefix.prefix b.prefix.prefix && pointwise nat_eq a.prefix.sub b.prefix.sub) (pointwise nat_eq a.key b.key) e in
    let inner : (pointwise nat_eq a.prefix.prefix b.prefix.prefix ≡ true) × (pointwise nat_eq a.prefix.sub b.prefix.sub ≡ true) =
    and_parts (pointwise nat_eq a.prefix.prefix b.prefix.prefix) (pointwise nat_eq a.prefix.sub b.prefix.sub) outer.0 in
    λ i. record {
      prefix = record {
        prefix = same_text a.prefix.prefix b.prefix.prefix (sym inner.0) i;
        sub = same_text a.prefix.sub b.prefix.sub (sym inner.1) i;
      };
      key = same_text a.key b.key (sym outer.1) i;
    }

pub key_eq-self : (a : Key) → key_eq a a ≡ true
key_eq-self a =
    and_from (pointwise nat_eq a.prefix.prefix a.prefix.prefix && pointwise nat_eq a.prefix.sub a.prefix.sub) (pointwise nat_eq a.key a.key)
    (and_from (pointwise nat_eq a.prefix.prefix a.prefix.prefix) (pointwise nat_eq a.prefix.sub a.prefix.sub) (pointwise-self a.prefix.prefix) (pointwise-self a.prefix.sub))
    (pointwise-self a.key)
