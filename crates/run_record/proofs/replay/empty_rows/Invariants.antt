use Rattle.std.proofs.Common.{◌≡◌, length, All, Vec, Global}
use Rattle.run_record.specs.declared.replay.Mark.{Mark}
use Rattle.run_record.proofs.replay.empty_rows.Given as goal

abbrev pub invariant-loop-node : goal.invariant-loop-node
invariant-loop-node l = (length l.rows.items ≡ l._node)
    × All (λ (row : Vec Mark Global). length row.items ≡ 0) l.rows.items
