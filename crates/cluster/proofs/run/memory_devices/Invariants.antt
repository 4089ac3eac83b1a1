use Rattle.std.proofs.Common.{◌≡◌, map, All}
use Rattle.devices.specs.Calls.{content_after, CrashLeaves}
use Rattle.devices.specs.Device.{IsDurable}
use Rattle.cluster.specs.Run.{nothing_on}
use Rattle.cluster.proofs.run.memory_devices.Given as goal

abbrev pub invariant-loop-node : goal.invariant-loop-node
invariant-loop-node l = record {
  empty : map (λ m. content_after m.first m.calls) l.devices.items ≡ nothing_on l._node;
  durable : All (λ m. IsDurable (content_after m.first m.calls) (CrashLeaves m.first m.calls)) l.devices.items;
}
