use Rattle.std.proofs.Common.{◌≡◌, ◌+◌, true, ◌++◌, length, map}
use Rattle.std.specs.List.{flat_map}
use Rattle.std.specs.FinMap.{is_sorted}
use Rattle.meta_types.specs.Order.{bytes_cmp}
use Rattle.frame_fields.specs.Field.{key_row_parts}
use Rattle.exchange.specs.Answers.{answer_bucket, object_if_held, want_messages}
use Rattle.exchange.specs.Sides.{AreNamed, differing}
use Rattle.exchange.proofs.answering.answer_bucket.Given as goal

abbrev pub invariant-loop-next : goal.invariant-loop-next
invariant-loop-next l = record {
  their_rest_rises : is_sorted bytes_cmp (map key_row_parts l.their_rest) ≡ true;
  own_rest_rises : is_sorted bytes_cmp (map key_row_parts l.own_rest) ≡ true;
  their_rest_named : AreNamed l.their_rest;
  own_rest_named : AreNamed l.own_rest;
  told : l.answers.items ++ flat_map (λ row. object_if_held l.held (record { prefix = l.prefix; key = row.0 }) ++ want_messages (record { prefix = l.prefix; key = row.0 }) row.1) (differing bytes_cmp (map key_row_parts l.their_rest) (map key_row_parts l.own_rest)) ≡ answer_bucket l.held l.prefix l.leaf l.theirs;
}

abbrev pub decreases-loop-next : goal.decreases-loop-next
decreases-loop-next l = length l.their_rest + length l.own_rest
