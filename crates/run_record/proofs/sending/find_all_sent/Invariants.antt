use Rattle.std.proofs.Common.{◌<◌, ℕ}
use Rattle.run_record.specs.Refusal.{IsUnsent}
use Rattle.run_record.proofs.sending.find_all_sent.Given as goal

-- none of the nodes so far has such an entry
abbrev pub invariant-loop-node : goal.invariant-loop-node
invariant-loop-node l = (n p : ℕ) → n < l.node → IsUnsent l.closed n p → ⊥
