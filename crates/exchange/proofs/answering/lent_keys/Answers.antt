use Rattle.std.proofs.Common.{subst, ap, ◌∙◌}
use Rattle.meta_store.specs.Table.{IsTable}
use Rattle.hash_tree.specs.Tree.{bucket, own_rows}
use Rattle.exchange.proofs.Lawful.{keys_fit}
use Rattle.exchange.proofs.answering.lent_keys.Goals as goal

pub returns-clause-lawful : goal.returns-clause-lawful
returns-clause-lawful c =
    keys_fit c.args.held.now (subst IsTable c.store.ensures c.len-few.ensures.is_table) c.args.prefix.now c.args.leaf c.lent_bucket.result.now
    (c.lent_bucket.ensures.value ∙ ap (λ rows. bucket (own_rows c.args.prefix.now rows) c.args.leaf) c.tree.ensures)
    c.lent_bucket.ensures.rising
