use Rattle.std.proofs.Common.{rules}
use Rattle.plumtree.specs.Rows.{up, down}
use Rattle.plumtree.proofs.Peers.{links_without}
use Rattle.plumtree.proofs.foreseen.Foreseen.change.Goals as goal

pub invariant_of-self-in-Down : goal.invariant_of-self-in-Down
invariant_of-self-in-Down c =
    links_without c.in-Down.node c.self.inside.eager.keys c.self.inside.lazy.keys c.shift_remove.new.self.keys c.shift_remove-in-Down.new.self.keys
    c.shift_remove.ensures.keys c.shift_remove-in-Down.ensures.keys c.self.invariant

pub returns-in_ok-insert-in-Up : goal.returns-in_ok-insert-in-Up
unfolding up
returns-in_ok-insert-in-Up c = rw c.in-Up.is (search rules)

pub returns-in-Down : goal.returns-in-Down
unfolding down
returns-in-Down c = rw c.in-Down.is (search rules)
