use Rattle.std.proofs.Common.{List, ℕ, ap, ◌∙◌, ◌++◌, true}
use Rattle.subscriptions.specs.declared.change.Change.{Change}
use Rattle.printing.specs.Field.{bytes_text}
use Rattle.printing.proofs.Lists.{add_next}
use Rattle.scenario_commands.proofs.print.print_each_change.Goals as goal

pub loop-change-preserved : goal.loop-change-preserved
loop-change-preserved c =
    add_next (λ (x : Change). bytes_text x.key.key) true c.loop-change.first c.args.changes.now c.loop-change.change-index c.change-item.result _ _ _
    c.loop-change-test.true c.change-item.is c.loop-change.invariant
    (c.in_ok-print_name.ensures.ok ∙ ap (λ (own : List ℕ). c.print_comma.new.out.items ++ bytes_text own) c.key.ensures.value ∙ ap (λ bytes. bytes ++ bytes_text c.change-item.result.key.key) c.in_ok-print_comma.ensures)
