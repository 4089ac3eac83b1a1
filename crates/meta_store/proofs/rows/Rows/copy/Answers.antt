use Rattle.std.specs.Bool.{passes}
use Rattle.std.specs.FinMap.{is_sorted}
use Rattle.meta_types.specs.Order.{bytes_cmp}
use Rattle.meta_store.proofs.Kept.{bytes_total}
use Rattle.meta_store.proofs.Maps.{filled_up}
use Rattle.meta_store.proofs.rows.Rows.copy.Goals as goal

pub loop-key-preserved-in_ok-insert : goal.loop-key-preserved-in_ok-insert
loop-key-preserved-in_ok-insert c =
    filled_up bytes_cmp bytes_total c.loop-key.by_key.entries c.insert-in-loop-key.new.self.entries c.next.new.self c.args.self.now c.in_ok-copy.field-0 c.in_ok-copy-2.field-0
    (passes (is_sorted bytes_cmp c.args.self.now) (rw (← c.self.view_is) c.self.invariant.rising))
    (rw (c.in_ok-copy.ensures, c.in_ok-copy-2.ensures, ← c.in-Some.ensures.steps) c.loop-key.invariant)
    c.in_ok-insert.ensures.entries

pub loop-key-preserved : goal.loop-key-preserved
loop-key-preserved c =
    filled_up bytes_cmp bytes_total c.loop-key.by_key.entries c.insert-in-loop-key.new.self.entries c.next.new.self c.args.self.now c.in_ok-copy.field-0 c.in_ok-copy-2.field-0
    (passes (is_sorted bytes_cmp c.args.self.now) (rw (← c.self.view_is) c.self.invariant.rising))
    (rw (c.in_ok-copy.ensures, c.in_ok-copy-2.ensures, ← c.in-Some.ensures.steps) c.loop-key.invariant)
    c.in_ok-insert.ensures.entries
