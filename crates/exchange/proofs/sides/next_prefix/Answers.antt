use Rattle.std.proofs.Common.{sym}
use Rattle.meta_types.specs.Order.{prefix_cmp}
use Rattle.meta_types.proofs.Comparing.{same_prefix}
use Rattle.frame_fields.specs.Field.{prefix_row_parts}
use Rattle.meta_store.proofs.Kept.{prefix_total}
use Rattle.exchange.proofs.Heads.{none_left, of_both, of_own, of_theirs, of_theirs_alone}
use Rattle.exchange.proofs.sides.next_prefix.Goals as goal

pub returns-in_default-split_first : goal.returns-in_default-split_first
returns-in_default-split_first c =
    of_theirs_alone prefix_cmp prefix_total same_prefix prefix_row_parts c.args.theirs.now c.args.own.now c.requires.theirs_rise c.requires.own_rise
    c.in-Some.first.now c.in-Some.rest.now c.in-Some.ensures.cases.0 (none_left c.args.own.now c.in_default-split_first.ensures.cases)

pub returns-in-Less : goal.returns-in-Less
returns-in-Less c =
    of_theirs prefix_cmp prefix_total same_prefix prefix_row_parts c.args.theirs.now c.args.own.now c.requires.theirs_rise c.requires.own_rise
    c.in-Some.first.now c.in-Some-split_first.other.now c.in-Some.rest.now c.in-Some-split_first.others.now c.in-Some.ensures.cases.0 c.in-Some-split_first.ensures.cases.0 (sym c.in-Less.ensures.value)

pub returns-in-Equal : goal.returns-in-Equal
returns-in-Equal c =
    of_both prefix_cmp prefix_total same_prefix prefix_row_parts c.args.theirs.now c.args.own.now c.requires.theirs_rise c.requires.own_rise
    c.in-Some.first.now c.in-Some-split_first.other.now c.in-Some.rest.now c.in-Some-split_first.others.now c.ne.result c.in-Some.ensures.cases.0 c.in-Some-split_first.ensures.cases.0 (sym c.in-Equal.ensures.value) c.ne.ensures

pub returns-in-Greater : goal.returns-in-Greater
returns-in-Greater c =
    of_own prefix_cmp prefix_total same_prefix prefix_row_parts c.args.theirs.now c.args.own.now c.requires.theirs_rise c.requires.own_rise
    c.in-Some.first.now c.in-Some-split_first.other.now c.in-Some.rest.now c.in-Some-split_first.others.now c.in-Some.ensures.cases.0 c.in-Some-split_first.ensures.cases.0 (sym c.in-Greater.ensures.value)
