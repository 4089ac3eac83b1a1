use Rattle.std.proofs.Common.{map, refl, subst, sym}
use Rattle.meta_types.specs.Order.{bytes_cmp}
use Rattle.frame_fields.specs.Field.{key_row_parts, keys}
use Rattle.exchange.specs.Answers.{answer_bucket}
use Rattle.exchange.specs.Sides.{differing}
use Rattle.exchange.proofs.Told.{ended, goes_on, keys_begun, keys_named, keys_sorted, tell_key}
use Rattle.exchange.proofs.answering.answer_bucket.Goals as goal

pub loop-next-init : goal.loop-next-init
loop-next-init c =
    let theirs_fit : keys.Fits c.as_slice-their_rest.result.now = subst keys.Fits (sym c.as_slice-their_rest.ensures.value) c.as_slice-their_rest.ensures.lawful in
    record {
      their_rest_rises = keys_sorted c.as_slice-their_rest.result.now theirs_fit;
      own_rest_rises = keys_sorted c.lent_keys-own_rest.result.now c.lent_keys-own_rest.ensures.lawful;
      their_rest_named = keys_named c.as_slice-their_rest.result.now theirs_fit;
      own_rest_named = keys_named c.lent_keys-own_rest.result.now c.lent_keys-own_rest.ensures.lawful;
      told = keys_begun c.args.held.now c.args.prefix.now c.args.leaf c.args.theirs.now c.lent_keys-own_rest.result.now c.as_slice-their_rest.result.now c.lent_keys-own_rest.result.now c.new-answers.result.items
          c.new-answers.ensures.items c.as_slice-their_rest.ensures.value refl c.lent_keys-own_rest.ensures.value;
    }

pub loop-next-preserved : goal.loop-next-preserved
loop-next-preserved c = record {
  their_rest_rises = c.in-Some.ensures.value.their_rest_rises;
  own_rest_rises = c.in-Some.ensures.value.own_rest_rises;
  their_rest_named = c.in-Some.ensures.theirs_named;
  own_rest_named = c.in-Some.ensures.own_named;
  told = goes_on (tell_key c.args.held.now c.args.prefix.now) c.loop-next.answers.items c.answer_key.new.answers.items (answer_bucket c.args.held.now c.args.prefix.now c.args.leaf c.args.theirs.now)
      c.in-Some.next.key.now c.in-Some.next.digest c.in-Some.next.differs
      (differing bytes_cmp (map key_row_parts c.in-Some.next.theirs.now) (map key_row_parts c.in-Some.next.own.now))
      (differing bytes_cmp (map key_row_parts c.loop-next.their_rest.now) (map key_row_parts c.loop-next.own_rest.now))
      c.in-Some.ensures.value.told c.in_ok-answer_key.ensures c.loop-next.invariant.told;
}

pub returns : goal.returns
returns c =
    ended bytes_cmp key_row_parts (tell_key c.args.held.now c.args.prefix.now) c.loop-next.answers.items (answer_bucket c.args.held.now c.args.prefix.now c.args.leaf c.args.theirs.now) c.loop-next.their_rest.now c.loop-next.own_rest.now
    c.in_default.ensures.value.0 c.in_default.ensures.value.1 c.loop-next.invariant.told
