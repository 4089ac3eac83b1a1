-- Of several values, the first of the greatest. That the last writer or the largest wins is common;
-- what decides at ties is our own.
use Rattle.std.specs.Prelude.{ℕ, Bool, not, List}
use Rattle.std.specs.List.{list_all, position_or_len}
use Rattle.std.specs.declared.cmp.Ordering.{Ordering}
use Rattle.std.specs.Ordering.{is_lt, nat_cmp, on, then_cmp}
use Rattle.std.specs.Option.{option_cmp}
use Rattle.meta_types.specs.Value.{ValueParts}
use Rattle.meta_types.specs.Order.{bytes_cmp, value_cmp}

-- the stamps decide; at equal stamps the bodies: a tombstone is least, then byte order
abbrev pub by_stamp : ValueParts → ValueParts → Ordering
by_stamp = value_cmp

-- the bodies decide: a tombstone is least, then byte order; at equal bodies the stamps
abbrev pub by_body : ValueParts → ValueParts → Ordering
by_body = then_cmp (on (λ v. v.body) (option_cmp bytes_cmp)) (on (λ v. v.stamp) nat_cmp)

-- none of the values is greater
abbrev pub is_greatest : (ValueParts → ValueParts → Ordering) → List ValueParts → ValueParts → Bool
is_greatest order values v = list_all (λ w. not (is_lt (order v w))) values

-- the place of the first of the greatest
abbrev pub first_greatest : (ValueParts → ValueParts → Ordering) → List ValueParts → ℕ
first_greatest order values = position_or_len (is_greatest order values) values
