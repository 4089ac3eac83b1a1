use Rattle.std.proofs.Common.{◌≡◌, ◌++◌, drop, map}
use Rattle.plumtree.specs.Rows.{ihave_of}
use Rattle.plumtree.proofs.missing.announced.Given as goal

abbrev pub invariant-loop-announcement : goal.invariant-loop-announcement
invariant-loop-announcement l = l.out.items ++ map ihave_of (drop l.announcement-index l.queue) ≡ map ihave_of l.queue
