use Rattle.std.proofs.Common.{◌≡◌, ◌<◌, ℕ, slice_get, Some}
use Rattle.node_journal.specs.declared.entry.Entry.{Entry}
use Rattle.run_record.specs.Giving.{Supplies}
use Rattle.run_record.proofs.giving.giver_in.Given as goal

-- none so far gives it
abbrev pub invariant-loop-place : goal.invariant-loop-place
invariant-loop-place l =
    (q : ℕ) (e : Entry) → q < l.place → slice_get l.journal q ≡ Some e → Supplies e l.event → ⊥
