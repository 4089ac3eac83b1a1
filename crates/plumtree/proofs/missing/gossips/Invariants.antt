use Rattle.std.proofs.Common.{◌≡◌, ◌++◌, drop, map}
use Rattle.plumtree.specs.declared.entry.CastOut.TheVariants.{Gossip}
use Rattle.plumtree.proofs.missing.gossips.Given as goal

abbrev pub invariant-loop-peer : goal.invariant-loop-peer
invariant-loop-peer l = l.out.items ++ map (λ to. Gossip to l.round l.key) (drop l.peer-index l.peers) ≡ map (λ to. Gossip to l.round l.key) l.peers
