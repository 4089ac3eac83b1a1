use Rattle.meta_types.specs.Order.{prefix_cmp}
use Rattle.meta_types.proofs.Comparing.{same_prefix}
use Rattle.frame_fields.specs.Field.{prefix_row_parts}
use Rattle.meta_store.proofs.Kept.{prefix_total}
use Rattle.exchange.proofs.Heads.{of_own_alone}
use Rattle.exchange.proofs.sides.own_prefix.Goals as goal

pub returns : goal.returns
returns c =
    of_own_alone prefix_cmp prefix_total same_prefix prefix_row_parts c.args.own.now c.in_ok-first.first.now c.in_ok-first.rest.now c.requires c.in_ok-first.ensures.cases.0
