use Rattle.std.proofs.Common.{◌≡◌, length, All, []}
use Rattle.devices.specs.Calls.{content_after, CrashLeaves}
use Rattle.devices.specs.Device.{IsDurable}
use Rattle.plumctl_live.proofs.folder.new_files.Given as goal

abbrev pub invariant-loop-node : goal.invariant-loop-node
invariant-loop-node l = record {
  many : length l.devices.items ≡ l.node;
  durable : All (λ d. IsDurable (content_after [] d.raw.noted.calls) (CrashLeaves [] d.raw.noted.calls)) l.devices.items;
}
