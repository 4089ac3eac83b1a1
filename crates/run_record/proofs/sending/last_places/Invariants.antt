use Rattle.std.proofs.Common.{◌≡◌, ◌<◌, ℕ, length, slice_index}
use Rattle.run_record.specs.Journals.{journal_of}
use Rattle.run_record.proofs.sending.last_places.Given as goal

abbrev pub invariant-loop-node : goal.invariant-loop-node
invariant-loop-node l = record {
  number : length l.ends.items ≡ l.node;
  behind : (n : ℕ) → n < l.node → slice_index l.ends.items n ≡ length (journal_of l.closed n);
}
