use Rattle.std.proofs.Common.{◌≡◌, ◌++◌, drop, take, map, length}
use Rattle.plumtree.specs.Ticking.{ticked}
use Rattle.plumtree.proofs.missing.lose_ticks.Given as goal

abbrev pub invariant-loop-place : goal.invariant-loop-place
invariant-loop-place l = (length l.missing.items ≡ length l.initial.missing.items) × (l.missing.items ≡ map ticked (take l.place l.initial.missing.items) ++ drop l.place l.initial.missing.items)
