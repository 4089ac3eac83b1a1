use Rattle.std.proofs.Common.{ap, ◌∙◌, ◌++◌}
use Rattle.printing.specs.Field.{value_text}
use Rattle.printing.proofs.Lists.{add_next, add_all}
use Rattle.printing.proofs.list.add_values.Goals as goal

pub loop-value-preserved : goal.loop-value-preserved
loop-value-preserved c =
    add_next value_text c.args.first c.loop-value.first c.args.values.now c.loop-value.value-index c.value-item.result _ _ _
    c.loop-value-test.true c.value-item.is c.loop-value.invariant
    (c.in_ok-add_value.ensures ∙ ap (λ bytes. bytes ++ value_text c.value-item.result) c.in_ok-add_comma.ensures)

pub returns : goal.returns
returns c = add_all value_text (λ values. values) c.args.first c.loop-value.first c.args.values.now c.loop-value.value-index _ _ c.loop-value-test.false c.loop-value.invariant
