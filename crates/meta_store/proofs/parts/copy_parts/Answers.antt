use Rattle.std.specs.Bool.{passes}
use Rattle.std.specs.FinMap.{is_sorted}
use Rattle.meta_types.specs.Order.{prefix_cmp}
use Rattle.meta_store.proofs.Kept.{prefix_total}
use Rattle.meta_store.proofs.Maps.{filled_up}
use Rattle.meta_store.proofs.parts.copy_parts.Goals as goal

pub loop-prefix-preserved-in_ok-insert : goal.loop-prefix-preserved-in_ok-insert
loop-prefix-preserved-in_ok-insert c =
    filled_up prefix_cmp prefix_total c.loop-prefix.copy.entries c.insert-in-loop-prefix.new.self.entries c.next.new.self c.args.parts.now.entries c.in_ok-copy.field-0 c.in_ok-copy-2.field-0
    (passes (is_sorted prefix_cmp c.args.parts.now.entries) c.requires.rising)
    (rw (c.in_ok-copy.ensures, c.in_ok-copy-2.ensures, ← c.in-Some.ensures.steps) c.loop-prefix.invariant)
    c.in_ok-insert.ensures.entries

pub loop-prefix-preserved : goal.loop-prefix-preserved
loop-prefix-preserved c =
    filled_up prefix_cmp prefix_total c.loop-prefix.copy.entries c.insert-in-loop-prefix.new.self.entries c.next.new.self c.args.parts.now.entries c.in_ok-copy.field-0 c.in_ok-copy-2.field-0
    (passes (is_sorted prefix_cmp c.args.parts.now.entries) c.requires.rising)
    (rw (c.in_ok-copy.ensures, c.in_ok-copy-2.ensures, ← c.in-Some.ensures.steps) c.loop-prefix.invariant)
    c.in_ok-insert.ensures.entries
