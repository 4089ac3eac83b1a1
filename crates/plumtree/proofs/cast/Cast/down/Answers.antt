use Rattle.plumtree.proofs.Peers.{links_without}
use Rattle.plumtree.proofs.cast.Cast.down.Goals as goal

pub invariant_of-self : goal.invariant_of-self
invariant_of-self c =
    links_without c.args.node c.self.inside.eager.keys c.self.inside.lazy.keys c.shift_remove.new.self.keys c.shift_remove-2.new.self.keys
    c.shift_remove.ensures.keys c.shift_remove-2.ensures.keys c.self.invariant
