use Rattle.std.specs.declared.cmp.Ordering.{Ordering}
use Rattle.meta_types.specs.Value.{ValueParts}
use Rattle.resolvers.specs.declared.resolver.Rank.{Rank}
use Rattle.resolvers.specs.declared.resolver.Rank.TheVariants.{ByStamp, ByBody}
use Rattle.resolvers.specs.Greatest.{by_stamp, by_body}

-- the order that a rank names
abbrev pub order_of : Rank → ValueParts → ValueParts → Ordering
order_of ByStamp = by_stamp
order_of ByBody = by_body
