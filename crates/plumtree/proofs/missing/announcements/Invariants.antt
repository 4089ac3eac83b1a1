use Rattle.std.proofs.Common.{◌≡◌, ◌++◌, drop, map}
use Rattle.plumtree.specs.Draft.{announcement_to}
use Rattle.plumtree.proofs.missing.announcements.Given as goal

abbrev pub invariant-loop-peer : goal.invariant-loop-peer
invariant-loop-peer l = l.queue.items ++ map (announcement_to l.round l.key l.vector) (drop l.peer-index l.peers) ≡ map (announcement_to l.round l.key l.vector) l.peers
