use Rattle.std.proofs.Common.{ap, ◌∙◌, ◌++◌, true}
use Rattle.printing.specs.Object.{counter_text}
use Rattle.printing.proofs.Lists.{add_next}
use Rattle.printing.proofs.list.add_counters.Goals as goal

pub loop-counter-preserved : goal.loop-counter-preserved
loop-counter-preserved c =
    add_next counter_text true c.loop-counter.first c.args.counters.now c.loop-counter.counter-index c.counter-item.result _ _ _
    c.loop-counter-test.true c.counter-item.is c.loop-counter.invariant
    (c.in_ok-add_counter.ensures ∙ ap (λ bytes. bytes ++ counter_text c.counter-item.result) c.in_ok-add_comma.ensures)
