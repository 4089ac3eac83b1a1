use Rattle.std.proofs.Common.{subst, ap, ◌∙◌}
use Rattle.meta_store.specs.Table.{IsTable}
use Rattle.hash_tree.specs.Tree.{prefix_roots}
use Rattle.exchange.proofs.Lawful.{prefixes_fit}
use Rattle.exchange.proofs.answering.own_prefixes.Goals as goal

pub new-requires : goal.new-requires
new-requires c =
    prefixes_fit c.args.held.now (subst IsTable c.store.ensures c.len-few.ensures.is_table) c.in_ok-prefix_roots.field-0.items
    (c.in_ok-prefix_roots.ensures.value ∙ ap prefix_roots c.tree.ensures)
    c.in_ok-prefix_roots.ensures.rising
