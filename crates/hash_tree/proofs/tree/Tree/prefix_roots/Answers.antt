use Rattle.std.proofs.Common.{ap, sym, ◌∙◌}
use Rattle.meta_store.proofs.Maps.{if_ok_more}
use Rattle.hash_tree.specs.Rising.{do_prefixes_rise}
use Rattle.hash_tree.proofs.ByPrefix.{roots_of_parts, roots_rise}
use Rattle.hash_tree.proofs.tree.Tree.prefix_roots.Goals as goal

pub returns : goal.returns
returns c =
    let parts = c.self.inside.parts.entries in
    record {
      value = rw (← c.self.view_is) (if_ok_more c.roots_of.result (λ roots is. is ∙ sym (roots_of_parts parts c.self.invariant)) c.roots_of.ensures);
      rising = if_ok_more c.roots_of.result (λ roots is. ap do_prefixes_rise is ∙ roots_rise parts c.self.invariant) c.roots_of.ensures;
    }
