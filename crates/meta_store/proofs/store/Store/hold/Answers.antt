use Rattle.std.proofs.Common.{◌≡◌, true, false, is_none, sym, ap, ◌∙◌, ◌+◌}
use Rattle.std.specs.Bool.{passes}
use Rattle.std.specs.FinMap.{find, is_sorted, put}
use Rattle.meta_types.specs.Order.{bytes_cmp, prefix_cmp}
use Rattle.meta_store.specs.Kept.{rows_at}
use Rattle.meta_store.proofs.Holding.{length_after, parts_after, table_after}
use Rattle.meta_store.proofs.Kept.{find_row}
use Rattle.meta_store.proofs.Maps.{always}
use Rattle.meta_store.proofs.store.Store.hold.Goals as goal

pub returns-in_err-put_part-clause-absent : goal.returns-in_err-put_part-clause-absent
returns-in_err-put_part-clause-absent c =
    let parts = c.self.inside.parts.entries in
    always c.from_residual.result (rw (← c.self.view_is) (
    find_row c.args.key parts (passes (is_sorted prefix_cmp parts) c.self.invariant.parts.rising)
    ∙ rw (← c.into_parts-prefix.ensures.prefix, ← c.into_parts-prefix.ensures.key) c.in_err-put_part.ensures.absent))

pub invariant_of-self-then-branch : goal.invariant_of-self-then-branch
invariant_of-self-then-branch c =
    let parts = c.self.inside.parts.entries in
    let new = c.put_part.new.parts.entries in
    let are = c.self.invariant.parts in
    let is : new ≡ put prefix_cmp c.args.key.prefix (put bytes_cmp c.args.key.key c.args.object (rows_at c.args.key.prefix parts)) parts =
    rw (← c.into_parts-prefix.ensures.prefix, ← c.into_parts-prefix.ensures.key) c.in_ok-put_part.ensures.value in
    let is_new : true ≡ is_none (find bytes_cmp c.args.key.key (rows_at c.args.key.prefix parts)) =
    rw (← c.into_parts-prefix.ensures.prefix, ← c.into_parts-prefix.ensures.key) (sym c.if-branch.true ∙ c.in_ok-put_part.ensures.is_new) in
    record {
      parts = parts_after c.args.key c.args.object parts new are is c.into_parts-prefix.ensures.in_range c.requires.held (rw c.self.view_is c.requires.room);
      counted = ap (λ n. n + 1) c.self.invariant.counted ∙ length_after c.args.key c.args.object parts new are is true is_new;
    }

pub invariant_of-self-else-branch : goal.invariant_of-self-else-branch
invariant_of-self-else-branch c =
    let parts = c.self.inside.parts.entries in
    let new = c.put_part.new.parts.entries in
    let are = c.self.invariant.parts in
    let is : new ≡ put prefix_cmp c.args.key.prefix (put bytes_cmp c.args.key.key c.args.object (rows_at c.args.key.prefix parts)) parts =
    rw (← c.into_parts-prefix.ensures.prefix, ← c.into_parts-prefix.ensures.key) c.in_ok-put_part.ensures.value in
    let is_new : false ≡ is_none (find bytes_cmp c.args.key.key (rows_at c.args.key.prefix parts)) =
    rw (← c.into_parts-prefix.ensures.prefix, ← c.into_parts-prefix.ensures.key) (sym c.if-branch.false ∙ c.in_ok-put_part.ensures.is_new) in
    record {
      parts = parts_after c.args.key c.args.object parts new are is c.into_parts-prefix.ensures.in_range c.requires.held (rw c.self.view_is c.requires.room);
      counted = c.self.invariant.counted ∙ length_after c.args.key c.args.object parts new are is false is_new;
    }

pub returns-then-branch-clause-value : goal.returns-then-branch-clause-value
returns-then-branch-clause-value c =
    rw (← c.self.view_is) (table_after c.args.key c.args.object c.self.inside.parts.entries c.put_part.new.parts.entries c.self.invariant.parts
    (rw (← c.into_parts-prefix.ensures.prefix, ← c.into_parts-prefix.ensures.key) c.in_ok-put_part.ensures.value))

pub returns-else-branch-clause-value : goal.returns-else-branch-clause-value
returns-else-branch-clause-value c =
    rw (← c.self.view_is) (table_after c.args.key c.args.object c.self.inside.parts.entries c.put_part.new.parts.entries c.self.invariant.parts
    (rw (← c.into_parts-prefix.ensures.prefix, ← c.into_parts-prefix.ensures.key) c.in_ok-put_part.ensures.value))
