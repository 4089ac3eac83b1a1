use Rattle.std.proofs.Common.{◌≡◌, ◌≤◌, ◌+◌, List, drop, length, map, vec_capacity}
use Rattle.inbox.specs.Views.{InboxView}
use Rattle.cluster_worker.specs.Passes.{AreNewPassesFrom, AreSenderRows, new_take}
use Rattle.cluster_worker.proofs.passes.gather.Given as goal

abbrev pub invariant-loop-takes : goal.invariant-loop-takes
invariant-loop-takes l =
    let made = length l.passes.items in
    let nodes = length l.fn.rows.items in record {
      number : made + length l.takes-iterator.rest.items ≡ length l.fn.takes.items;
      takes : l.takes-iterator.rest.items ≡ drop made l.fn.takes.items;
      rows : l.rows.rest.items ≡ drop made l.fn.rows.items;
      room : nodes ≤ vec_capacity l.passes;
      passes : (inboxes : List InboxView)
          → l.fn.takes.items ≡ map (new_take nodes) inboxes
          → AreSenderRows inboxes nodes l.fn.rows.items
          → AreNewPassesFrom inboxes 0 l.passes.items;
    }
