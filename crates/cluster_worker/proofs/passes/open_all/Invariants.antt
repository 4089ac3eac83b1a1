use Rattle.std.proofs.Common.{◌≡◌, ◌≤◌, length, All, vec_capacity}
use Rattle.inbox.specs.Opening.{IsFresh}
use Rattle.cluster_worker.proofs.passes.open_all.Given as goal

abbrev pub invariant-loop-node : goal.invariant-loop-node
invariant-loop-node l = record {
  number : length l.all.items ≡ l._node;
  room : l.nodes ≤ vec_capacity l.all;
  fresh : All (IsFresh l.nodes l.room) l.all.items;
}
