use Rattle.std.proofs.Common.{◌≡◌, ◌++◌, drop, take, map, length}
use Rattle.plumtree.specs.Rows.{without_announcer}
use Rattle.plumtree.proofs.missing.lose_announcer.Given as goal

abbrev pub invariant-loop-place : goal.invariant-loop-place
invariant-loop-place l = (length l.missing.items ≡ length l.initial.missing.items) × (l.missing.items ≡ map (without_announcer l.node) (take l.place l.initial.missing.items) ++ drop l.place l.initial.missing.items)
