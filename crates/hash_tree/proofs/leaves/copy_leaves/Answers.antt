use Rattle.std.specs.Bool.{passes}
use Rattle.std.specs.Cmp.{nat_cmp_total}
use Rattle.std.specs.FinMap.{is_sorted}
use Rattle.std.specs.Ordering.{nat_cmp}
use Rattle.meta_store.proofs.Maps.{filled_up}
use Rattle.hash_tree.proofs.leaves.copy_leaves.Goals as goal

pub loop-leaf-preserved-in_ok-insert : goal.loop-leaf-preserved-in_ok-insert
loop-leaf-preserved-in_ok-insert c =
    filled_up nat_cmp nat_cmp_total c.loop-leaf.copy.entries c.insert.new.self.entries c.next.new.self c.args.leaves.now.entries c.in-Some.leaf.now c.in_ok-copy.field-0
    (passes (is_sorted nat_cmp c.args.leaves.now.entries) c.requires.rising)
    (rw (c.in_ok-copy.ensures, ← c.in-Some.ensures.steps) c.loop-leaf.invariant)
    c.in_ok-insert.ensures.entries

pub loop-leaf-preserved : goal.loop-leaf-preserved
loop-leaf-preserved c =
    filled_up nat_cmp nat_cmp_total c.loop-leaf.copy.entries c.insert.new.self.entries c.next.new.self c.args.leaves.now.entries c.in-Some.leaf.now c.in_ok-copy.field-0
    (passes (is_sorted nat_cmp c.args.leaves.now.entries) c.requires.rising)
    (rw (c.in_ok-copy.ensures, ← c.in-Some.ensures.steps) c.loop-leaf.invariant)
    c.in_ok-insert.ensures.entries
