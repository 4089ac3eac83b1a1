use Rattle.hash_tree.proofs.ByPrefix.{parts_left, table_left}
use Rattle.hash_tree.proofs.tree.Tree.forget.Goals as goal

pub invariant_of-self : goal.invariant_of-self
invariant_of-self c =
    parts_left c.args.key.now c.self.inside.parts.entries c.remove_part.new.parts.entries c.self.invariant c.remove_part.ensures

pub returns : goal.returns
returns c =
    rw (← c.self.view_is) (table_left c.args.key.now c.self.inside.parts.entries c.remove_part.new.parts.entries c.self.invariant c.remove_part.ensures)
