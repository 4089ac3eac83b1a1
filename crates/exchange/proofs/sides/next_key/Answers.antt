use Rattle.std.proofs.Common.{sym}
use Rattle.meta_types.specs.Order.{bytes_cmp}
use Rattle.frame_fields.specs.Field.{key_row_parts}
use Rattle.meta_store.proofs.Kept.{bytes_total}
use Rattle.meta_types.proofs.Comparing.{same_bytes}
use Rattle.exchange.proofs.Heads.{named_rest, none_left, of_both, of_own, of_theirs, of_theirs_alone}
use Rattle.exchange.proofs.sides.next_key.Goals as goal

pub returns-in_default-split_first-clause-value : goal.returns-in_default-split_first-clause-value
returns-in_default-split_first-clause-value c =
    of_theirs_alone bytes_cmp bytes_total same_bytes key_row_parts c.args.theirs.now c.args.own.now c.requires.theirs_rise c.requires.own_rise
    c.in-Some.first.now c.in-Some.rest.now c.in-Some.ensures.cases.0 (none_left c.args.own.now c.in_default-split_first.ensures.cases)

pub returns-in-Less-clause-value : goal.returns-in-Less-clause-value
returns-in-Less-clause-value c =
    of_theirs bytes_cmp bytes_total same_bytes key_row_parts c.args.theirs.now c.args.own.now c.requires.theirs_rise c.requires.own_rise
    c.in-Some.first.now c.in-Some-split_first.other.now c.in-Some.rest.now c.in-Some-split_first.others.now c.in-Some.ensures.cases.0 c.in-Some-split_first.ensures.cases.0 (sym c.in-Less.ensures.value)

pub returns-in-Equal-clause-value : goal.returns-in-Equal-clause-value
returns-in-Equal-clause-value c =
    of_both bytes_cmp bytes_total same_bytes key_row_parts c.args.theirs.now c.args.own.now c.requires.theirs_rise c.requires.own_rise
    c.in-Some.first.now c.in-Some-split_first.other.now c.in-Some.rest.now c.in-Some-split_first.others.now c.ne.result c.in-Some.ensures.cases.0 c.in-Some-split_first.ensures.cases.0 (sym c.in-Equal.ensures.value) c.ne.ensures

pub returns-in-Greater-clause-value : goal.returns-in-Greater-clause-value
returns-in-Greater-clause-value c =
    of_own bytes_cmp bytes_total same_bytes key_row_parts c.args.theirs.now c.args.own.now c.requires.theirs_rise c.requires.own_rise
    c.in-Some.first.now c.in-Some-split_first.other.now c.in-Some.rest.now c.in-Some-split_first.others.now c.in-Some.ensures.cases.0 c.in-Some-split_first.ensures.cases.0 (sym c.in-Greater.ensures.value)

pub returns-in_default-split_first-clause-theirs_named : goal.returns-in_default-split_first-clause-theirs_named
returns-in_default-split_first-clause-theirs_named c =
    named_rest c.args.theirs.now c.in-Some.first.now c.in-Some.rest.now c.in-Some.ensures.cases.0 c.requires.theirs_named

pub returns-in-Less-clause-theirs_named : goal.returns-in-Less-clause-theirs_named
returns-in-Less-clause-theirs_named c =
    named_rest c.args.theirs.now c.in-Some.first.now c.in-Some.rest.now c.in-Some.ensures.cases.0 c.requires.theirs_named

pub returns-in-Equal-clause-theirs_named : goal.returns-in-Equal-clause-theirs_named
returns-in-Equal-clause-theirs_named c =
    named_rest c.args.theirs.now c.in-Some.first.now c.in-Some.rest.now c.in-Some.ensures.cases.0 c.requires.theirs_named

pub returns-in-Equal-clause-own_named : goal.returns-in-Equal-clause-own_named
returns-in-Equal-clause-own_named c =
    named_rest c.args.own.now c.in-Some-split_first.other.now c.in-Some-split_first.others.now c.in-Some-split_first.ensures.cases.0 c.requires.own_named

pub returns-in-Greater-clause-own_named : goal.returns-in-Greater-clause-own_named
returns-in-Greater-clause-own_named c =
    named_rest c.args.own.now c.in-Some-split_first.other.now c.in-Some-split_first.others.now c.in-Some-split_first.ensures.cases.0 c.requires.own_named
