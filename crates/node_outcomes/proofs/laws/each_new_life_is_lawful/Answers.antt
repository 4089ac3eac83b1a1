use Rattle.std.proofs.Common.{◌<◌, ◌^◌, subst}
use Rattle.meta_types.specs.Node.{IsNode}
use Rattle.meta_store.specs.Table.{IsTable}
use Rattle.node_outcomes.proofs.laws.each_new_life_is_lawful.Goals as goal

pub returns : goal.returns
returns c = λ begins.
    record {
      node = subst IsNode c.node.ensures c.number-number.ensures.in_range;
      first = c.watches-watches.ensures.lawful.in_life.lives;
      life = subst (λ n. n < 2 ^ 32) c.incarnation-life.ensures c.incarnation-life.type_inv;
      table = subst IsTable c.store.ensures c.len-keys.ensures.is_table;
      begins = begins;
    }
