-- The comparisons that `==` makes of names, part by part: equal exactly if all parts are, by lemmas
-- that impls cite.
use Rattle.std.specs.Prelude.{◌≡◌, nat_eq, Bool, ◌&&◌}
use Rattle.std.specs.Bool.{Decides}
use Rattle.std.specs.Ordering.{on, eq_of_both}
use Rattle.std.specs.Cmp.Lexicographic.{pointwise, bytes_decides}
use Rattle.meta_types.specs.Name.{Prefix, Key}
use Rattle.meta_types.specs.Ties.{both_decide}

abbrev pub prefix_parts_eq : Prefix → Prefix → Bool
prefix_parts_eq =
    eq_of_both (on (λ p. p.prefix) (pointwise nat_eq)) (on (λ p. p.sub) (pointwise nat_eq))

-- the keys have the same bytes
abbrev pub key_eq : Key → Key → Bool
key_eq a b = (pointwise nat_eq a.prefix.prefix b.prefix.prefix
    && pointwise nat_eq a.prefix.sub b.prefix.sub) && pointwise nat_eq a.key b.key

pub prefixes_decide : (p q : Prefix) → Decides (prefix_parts_eq p q) (p ≡ q)
prefixes_decide p q = both_decide
    (pointwise nat_eq p.prefix q.prefix) (pointwise nat_eq p.sub q.sub)
    (bytes_decides p.prefix q.prefix) (bytes_decides p.sub q.sub)
    (λ firsts subs i. record { prefix = firsts i; sub = subs i })
    (λ same i. (same i).prefix) (λ same i. (same i).sub)

pub keys_decide : (k l : Key) → Decides (key_eq k l) (k ≡ l)
keys_decide k l = both_decide
    (prefix_parts_eq k.prefix l.prefix) (pointwise nat_eq k.key l.key)
    (prefixes_decide k.prefix l.prefix) (bytes_decides k.key l.key)
    (λ prefixes keys i. record { prefix = prefixes i; key = keys i })
    (λ same i. (same i).prefix) (λ same i. (same i).key)
