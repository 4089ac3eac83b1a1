use Rattle.std.proofs.Common.{◌++◌, sym, ap, ◌∙◌}
use Rattle.meta_store.specs.Table.{Table}
use Rattle.node_core.proofs.Filling.{filled_next}
use Rattle.node_core.proofs.table.store_of.Goals as goal

pub loop-row-preserved : goal.loop-row-preserved
loop-row-preserved c =
    filled_next c.loop-row.store c.next.new.self.rest.items c.args.rows.items c.hold.new.self c.in-Some.row.0 c.in-Some.row.1 c.requires
    (ap (λ (rest : Table). c.loop-row.store ++ rest) (sym c.in-Some.ensures.steps.0) ∙ c.loop-row.invariant) c.in_ok-hold.ensures.value
