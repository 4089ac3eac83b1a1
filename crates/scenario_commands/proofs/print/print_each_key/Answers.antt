use Rattle.std.proofs.Common.{List, ℕ, ap, ◌∙◌, ◌++◌, true}
use Rattle.meta_types.specs.Name.{Key}
use Rattle.printing.specs.Field.{bytes_text}
use Rattle.printing.proofs.Lists.{add_next}
use Rattle.scenario_commands.proofs.print.print_each_key.Goals as goal

pub loop-key-preserved : goal.loop-key-preserved
loop-key-preserved c =
    add_next (λ (x : Key). bytes_text x.key) true c.loop-key.first c.args.keys.now c.loop-key.key-index c.key-item.result _ _ _
    c.loop-key-test.true c.key-item.is c.loop-key.invariant
    (c.in_ok-print_name.ensures.ok ∙ ap (λ (own : List ℕ). c.print_comma.new.out.items ++ bytes_text own) c.key.ensures.value ∙ ap (λ bytes. bytes ++ bytes_text c.key-item.result.key) c.in_ok-print_comma.ensures)
