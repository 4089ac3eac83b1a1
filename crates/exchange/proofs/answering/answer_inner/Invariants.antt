use Rattle.std.proofs.Common.{◌≡◌, map}
use Rattle.std.specs.Prelude.{slice_get}
use Rattle.std.specs.List.{filter, range_with_len}
use Rattle.hash_tree.specs.Tree.{inner_digests}
use Rattle.hash_tree.specs.Hashed.{rows_below}
use Rattle.exchange.specs.Answers.{leaves_message}
use Rattle.exchange.specs.Sides.{differ}
use Rattle.exchange.proofs.answering.answer_inner.Given as goal

abbrev pub invariant-loop-inner : goal.invariant-loop-inner
invariant-loop-inner l = l.answers.items ≡ map (leaves_message l.held l.prefix) (filter (λ place. differ (slice_get l.theirs place) (slice_get (inner_digests (rows_below l.prefix l.held)) place)) (range_with_len 0 l.inner))
