use Rattle.std.proofs.Common.{subst}
use Rattle.meta_store.specs.Table.{IsTable}
use Rattle.node_call.proofs.Batching.{known_if_made}
use Rattle.node_call.proofs.making.step_known.Goals as goal

pub returns-clause-known : goal.returns-clause-known
returns-clause-known c =
    let made = c.step_since-stepped in
    known_if_made made.result c.args.state.now c.args.event.now made.new.self made.ensures.step c.each_step_counts.ensures c.each_step_grows.ensures c.what_is_held_is_kept.ensures
    (subst IsTable c.store.ensures c.len.ensures.is_table) (subst IsTable c.store-2.ensures c.len-2.ensures.is_table)
