use Rattle.std.proofs.Common.{◌≡◌, drop}
use Rattle.plumtree.specs.Ticking.{graft_each}
use Rattle.plumtree.proofs.tick.Draft.graft_each.Given as goal

abbrev pub invariant-loop-object : goal.invariant-loop-object
invariant-loop-object l = graft_each (drop l.object-index l.missing) l.self ≡ graft_each l.missing l.initial.self
