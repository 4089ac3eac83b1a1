use Rattle.std.proofs.Common.{subst, ap, ◌∙◌}
use Rattle.meta_store.specs.Table.{IsTable}
use Rattle.hash_tree.specs.Tree.{bucket, own_rows}
use Rattle.exchange.proofs.Lawful.{keys_fit}
use Rattle.exchange.proofs.answering.own_keys.Goals as goal

pub new-requires : goal.new-requires
new-requires c =
    keys_fit c.args.held.now (subst IsTable c.store.ensures c.len-few.ensures.is_table) c.args.prefix.now c.args.leaf c.in_ok-bucket.field-0.items
    (c.in_ok-bucket.ensures.value ∙ ap (λ rows. bucket (own_rows c.args.prefix.now rows) c.args.leaf) c.tree.ensures)
    c.in_ok-bucket.ensures.rising
