use Rattle.std.proofs.Common.{◌≡◌, ◌+◌, ◌*◌, map}
use Rattle.std.specs.Prelude.{slice_get}
use Rattle.std.specs.List.{filter, range_with_len}
use Rattle.hash_tree.specs.Tree.{leaf_digests}
use Rattle.hash_tree.specs.Hashed.{rows_below}
use Rattle.exchange.specs.Answers.{bucket_message}
use Rattle.exchange.specs.Sides.{differ}
use Rattle.exchange.proofs.answering.answer_leaves.Given as goal

abbrev pub invariant-loop-place : goal.invariant-loop-place
invariant-loop-place l = l.answers.items ≡ map (λ place. bucket_message l.held l.prefix (16 * l.inner + place)) (filter (λ place. differ (slice_get l.theirs place) (slice_get (leaf_digests (rows_below l.prefix l.held) l.inner) place)) (range_with_len 0 l.place))
