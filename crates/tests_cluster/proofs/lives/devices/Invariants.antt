use Rattle.std.proofs.Common.{All, []}
use Rattle.devices.specs.Calls.{content_after, CrashLeaves}
use Rattle.devices.specs.Device.{IsDurable}
use Rattle.tests_cluster.proofs.lives.devices.Given as goal

abbrev pub invariant-loop-node : goal.invariant-loop-node
invariant-loop-node g l =
    All (λ d. IsDurable (content_after [] d.raw.noted.calls) (CrashLeaves [] d.raw.noted.calls)) l.devices.items
