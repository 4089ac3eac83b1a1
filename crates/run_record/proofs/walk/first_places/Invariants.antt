use Rattle.std.proofs.Common.{◌≡◌, ℕ, length, slice_index}
use Rattle.run_record.proofs.walk.first_places.Given as goal

abbrev pub invariant-loop-node : goal.invariant-loop-node
invariant-loop-node l = record {
  number : length l.next.items ≡ l._node;
  zero : (n : ℕ) → slice_index l.next.items n ≡ 0;
}
