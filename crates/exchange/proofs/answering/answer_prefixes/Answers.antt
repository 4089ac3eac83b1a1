use Rattle.std.proofs.Common.{map, subst, sym}
use Rattle.meta_types.specs.Order.{prefix_cmp}
use Rattle.frame_fields.specs.Field.{prefix_row_parts, prefixes}
use Rattle.exchange.specs.Answers.{answer_prefixes}
use Rattle.exchange.specs.Sides.{differing}
use Rattle.exchange.proofs.Told.{ended, goes_on, prefixes_begun, prefixes_sorted, tell_prefix}
use Rattle.exchange.proofs.answering.answer_prefixes.Goals as goal

pub loop-next-init : goal.loop-next-init
loop-next-init c = record {
  their_rest_rises = prefixes_sorted c.as_slice-their_rest.result.now (subst prefixes.Fits (sym c.as_slice-their_rest.ensures.value) c.as_slice-their_rest.ensures.lawful);
  own_rest_rises = prefixes_sorted c.as_slice-own_rest.result.now (subst prefixes.Fits (sym c.as_slice-own_rest.ensures.value) c.as_slice-own_rest.ensures.lawful);
  told = prefixes_begun c.args.held.now c.args.theirs.now c.in_ok-own.own c.as_slice-their_rest.result.now c.as_slice-own_rest.result.now c.new-answers.result.items
      c.new-answers.ensures.items c.as_slice-their_rest.ensures.value c.as_slice-own_rest.ensures.value c.in_ok-own.ensures;
}

pub loop-next-preserved : goal.loop-next-preserved
loop-next-preserved c = record {
  their_rest_rises = c.in-Some.ensures.their_rest_rises;
  own_rest_rises = c.in-Some.ensures.own_rest_rises;
  told = goes_on (tell_prefix c.args.held.now) c.loop-next.answers.items c.answer_prefix.new.answers.items (answer_prefixes c.args.held.now c.args.theirs.now)
      c.in-Some.next.key.now c.in-Some.next.digest c.in-Some.next.differs
      (differing prefix_cmp (map prefix_row_parts c.in-Some.next.theirs.now) (map prefix_row_parts c.in-Some.next.own.now))
      (differing prefix_cmp (map prefix_row_parts c.loop-next.their_rest.now) (map prefix_row_parts c.loop-next.own_rest.now))
      c.in-Some.ensures.told c.in_ok-answer_prefix.ensures c.loop-next.invariant.told;
}

pub returns : goal.returns
returns c =
    ended prefix_cmp prefix_row_parts (tell_prefix c.args.held.now) c.loop-next.answers.items (answer_prefixes c.args.held.now c.args.theirs.now) c.loop-next.their_rest.now c.loop-next.own_rest.now
    c.in_default.ensures.0 c.in_default.ensures.1 c.loop-next.invariant.told
