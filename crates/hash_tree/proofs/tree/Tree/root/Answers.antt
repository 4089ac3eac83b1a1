use Rattle.std.proofs.Common.{sym, ap, ◌∙◌}
use Rattle.hash_tree.specs.Tree.{tree_root}
use Rattle.hash_tree.proofs.ByPrefix.{root_of_parts}
use Rattle.hash_tree.proofs.tree.Tree.root.Goals as goal

pub returns : goal.returns
returns c = c.root_of.ensures ∙ sym (root_of_parts c.self.inside.parts.entries c.self.invariant) ∙ ap tree_root c.self.view_is
