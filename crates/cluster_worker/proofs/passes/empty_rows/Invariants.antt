use Rattle.std.proofs.Common.{◌≡◌, ◌≤◌, length, All, vec_capacity}
use Rattle.cluster_worker.specs.Passes.{IsEmptyFor}
use Rattle.cluster_worker.proofs.passes.empty_rows.Given as goal

abbrev pub invariant-loop-node : goal.invariant-loop-node
invariant-loop-node l = record {
  number : length l.rows.items ≡ l._node;
  room : l.nodes ≤ vec_capacity l.rows;
  each : All (IsEmptyFor l.nodes) l.rows.items;
}
