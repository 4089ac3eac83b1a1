use Rattle.std.proofs.Common.{◌≡◌, ◌≤◌, ◌+◌, ℕ, false, length, map, All, vec_capacity}
use Rattle.inbox.specs.Opening.{IsFresh}
use Rattle.cluster_worker.specs.Passes.{AreSenderRows, new_take}
use Rattle.cluster_worker.proofs.passes.part.Given as goal

abbrev pub invariant-loop-one : goal.invariant-loop-one
invariant-loop-one l =
    let nodes = length l.fn.rows.items in
    let rest = l.one-iterator.rest.items in record {
      number : length l.inboxes.items + length rest ≡ nodes;
      takes : l.all_takes.items ≡ map (new_take nodes) l.inboxes.items;
      rows : AreSenderRows l.inboxes.items nodes l.rows.items;
      fresh : (room : ℕ) → All (IsFresh nodes room) l.fn.fresh.items
          → All (IsFresh nodes room) rest
          × All (λ a. (a.room ≡ room) × (a.closed ≡ false)) l.inboxes.items;
      inboxes : nodes ≤ vec_capacity l.inboxes;
      room : nodes ≤ vec_capacity l.all_takes;
    }
