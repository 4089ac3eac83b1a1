-- Equal part by part, as code compares, is equal in order.
use Rattle.std.proofs.Common.{rules, ◌≡◌, ◌&&◌, nat_eq}
use Rattle.std.specs.Cmp.Lexicographic.{pointwise}
use Rattle.std.specs.Cmp.Rules.{comparing}
use Rattle.meta_types.specs.Name.{Prefix}
use Rattle.meta_types.specs.Order.{prefix_eq}

pub prefix_eq-by_parts : (p q : Prefix)
    → (pointwise nat_eq p.prefix q.prefix && pointwise nat_eq p.sub q.sub) ≡ prefix_eq p q
prefix_eq-by_parts = Prim.search (comparing, rules)
