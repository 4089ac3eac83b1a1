use Rattle.std.proofs.Common.{ap, ◌∙◌, ◌++◌, true}
use Rattle.printing.specs.Row.{key_row_text}
use Rattle.printing.proofs.Lists.{add_next}
use Rattle.printing.proofs.row.add_each_key.Goals as goal

pub loop-row-preserved : goal.loop-row-preserved
loop-row-preserved c =
    add_next key_row_text true c.loop-row.first c.args.rows.now c.loop-row.row-index c.row-item.result _ _ _
    c.loop-row-test.true c.row-item.is c.loop-row.invariant
    (c.in_ok-add_key_row.ensures ∙ ap (λ bytes. bytes ++ key_row_text c.row-item.result) c.in_ok-add_comma.ensures)
