use Rattle.std.proofs.Common.{All}
use Rattle.devices.specs.Calls.{content_after, CrashLeaves}
use Rattle.devices.specs.Device.{IsDurable}
use Rattle.tests_cluster.proofs.parts.failing.Given as goal

abbrev pub invariant-loop-count : goal.invariant-loop-count
invariant-loop-count g l =
    All (λ d. IsDurable (content_after d.inner.first d.inner.calls) (CrashLeaves d.inner.first d.inner.calls)) l.devices.items
