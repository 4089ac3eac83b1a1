use Rattle.std.proofs.Common.{◌≡◌, ◌+◌, true, [], ◌∷◌, ◌++◌, length, map}
use Rattle.std.specs.List.{flat_map}
use Rattle.std.specs.FinMap.{is_sorted}
use Rattle.meta_types.specs.Order.{prefix_cmp}
use Rattle.frame_fields.specs.Field.{prefix_row_parts}
use Rattle.exchange.specs.Answers.{answer_prefixes, inner_message}
use Rattle.exchange.specs.Sides.{differing}
use Rattle.exchange.proofs.answering.answer_prefixes.Given as goal

abbrev pub invariant-loop-next : goal.invariant-loop-next
invariant-loop-next l = record {
  their_rest_rises : is_sorted prefix_cmp (map prefix_row_parts l.their_rest) ≡ true;
  own_rest_rises : is_sorted prefix_cmp (map prefix_row_parts l.own_rest) ≡ true;
  told : l.answers.items ++ flat_map (λ row. inner_message l.held row.0 ∷ []) (differing prefix_cmp (map prefix_row_parts l.their_rest) (map prefix_row_parts l.own_rest)) ≡ answer_prefixes l.held l.theirs;
}

abbrev pub decreases-loop-next : goal.decreases-loop-next
decreases-loop-next l = length l.their_rest + length l.own_rest
