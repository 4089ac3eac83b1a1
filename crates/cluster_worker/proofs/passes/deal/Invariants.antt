use Rattle.std.proofs.Common.{◌≡◌, drop, length}
use Rattle.cluster_worker.proofs.Dealt.{AreDealt, AreLeft}
use Rattle.cluster_worker.proofs.passes.deal.Given as goal

-- the rows before this one have got their passes, and the others are as they were
abbrev pub invariant-loop-row : goal.invariant-loop-row
invariant-loop-row l = record {
  passes : l.puts.rest.items ≡ drop l.row-index l.fn.puts.items;
  number : length l.row-items ≡ length l.fn.rows.items;
  dealt : AreDealt l.fn.rows.items l.fn.puts.items l.row-items l.row-index;
  left : AreLeft l.fn.rows.items l.row-items l.row-index;
}
