use Rattle.std.proofs.Common.{subst, map, true}
use Rattle.printing.specs.Field.{value_text}
use Rattle.printing.specs.Joined.{AddsTexts}
use Rattle.printing.proofs.Lists.{add_more}
use Rattle.printing.proofs.list.add_entries.Goals as goal

pub loop-entry-preserved : goal.loop-entry-preserved
loop-entry-preserved c =
    add_more value_text (λ e. e.values) true c.loop-entry.first c.in_ok-first.first c.args.entries.now c.loop-entry.entry-index c.entry-item.result _ _ _
    c.loop-entry-test.true c.entry-item.is c.loop-entry.invariant
    (subst (λ values. AddsTexts c.loop-entry.first (map value_text values) c.loop-entry.out.items c.add_values.new.out.items c.in_ok-first.first) c.values.ensures c.in_ok-first.ensures)
