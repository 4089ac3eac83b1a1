use Rattle.std.proofs.Common.{◌≡◌, ◌<◌, ℕ, slice_get, Some}
use Rattle.node_journal.specs.declared.entry.Entry.{Entry}
use Rattle.run_record.specs.Refusal.{IsUngiven}
use Rattle.run_record.proofs.sending.unsent_in.Given as goal

-- each so far is given what it needs
abbrev pub invariant-loop-place : goal.invariant-loop-place
invariant-loop-place l = (p : ℕ) (e : Entry) → p < l.place → slice_get l.journal p ≡ Some e
    → IsUngiven l.closed e.event → ⊥
