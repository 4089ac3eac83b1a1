use Rattle.std.proofs.Common.{◌≡◌, ◌<◌, ℕ, slice_index, Some}
use Rattle.node_journal.specs.declared.entry.Entry.{Entry}
use Rattle.run_record.specs.Giving.{Supplies}
use Rattle.run_record.specs.Journals.{entry_at}
use Rattle.run_record.proofs.giving.passed_giver.Given as goal

-- no entry of the nodes so far that was gone through gives it
abbrev pub invariant-loop-node : goal.invariant-loop-node
invariant-loop-node l = (m q : ℕ) (e : Entry) → m < l.node → q < slice_index l.next m
    → entry_at l.closed m q ≡ Some e → Supplies e l.event → ⊥
