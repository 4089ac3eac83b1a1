use Rattle.std.proofs.Common.{◌≡◌, ◌+◌, true, false, is_some, length, sym, ◌∙◌, arith}
use Rattle.std.specs.FinMap.{find}
use Rattle.meta_types.specs.Order.{bytes_cmp}
use Rattle.meta_store.specs.Kept.{rows_at, table_of, with_rows, without_row}
use Rattle.meta_store.proofs.Forgetting.{length_forgotten, parts_forgotten, table_forgotten}
use Rattle.meta_store.proofs.store.Store.forget.Goals as goal

pub overflow_sub-self : goal.overflow_sub-self
overflow_sub-self c =
    let k = c.args.key.now in
    let parts = c.self.inside.parts.entries in
    let new = c.remove_part.new.parts.entries in
    let is : new ≡ with_rows k.prefix (without_row k.key (rows_at k.prefix parts)) parts =
    rw (← c.prefix.ensures.value, ← c.own_bytes.ensures.value) c.remove_part.ensures.value in
    let was_held : true ≡ is_some (find bytes_cmp k.key (rows_at k.prefix parts)) =
    rw (← c.prefix.ensures.value, ← c.own_bytes.ensures.value) (sym c.if-remove_part.true ∙ c.remove_part.ensures.was_held) in
    let lengths : 1 + length (table_of new) ≡ length (table_of parts) = length_forgotten k parts new c.self.invariant.parts is true was_held in
    omega (arith, lengths, c.self.invariant.counted)

pub invariant_of-self : goal.invariant_of-self
invariant_of-self c =
    let k = c.args.key.now in
    let parts = c.self.inside.parts.entries in
    let new = c.remove_part.new.parts.entries in
    let is : new ≡ with_rows k.prefix (without_row k.key (rows_at k.prefix parts)) parts =
    rw (← c.prefix.ensures.value, ← c.own_bytes.ensures.value) c.remove_part.ensures.value in
    let was_held : true ≡ is_some (find bytes_cmp k.key (rows_at k.prefix parts)) =
    rw (← c.prefix.ensures.value, ← c.own_bytes.ensures.value) (sym c.if-remove_part.true ∙ c.remove_part.ensures.was_held) in
    let lengths : 1 + length (table_of new) ≡ length (table_of parts) = length_forgotten k parts new c.self.invariant.parts is true was_held in
    record {
      parts = parts_forgotten k parts new c.self.invariant.parts is;
      counted = omega (arith, lengths, c.self.invariant.counted);
    }

pub invariant_of-self-else-remove_part : goal.invariant_of-self-else-remove_part
invariant_of-self-else-remove_part c =
    let k = c.args.key.now in
    let parts = c.self.inside.parts.entries in
    let new = c.remove_part.new.parts.entries in
    let is : new ≡ with_rows k.prefix (without_row k.key (rows_at k.prefix parts)) parts =
    rw (← c.prefix.ensures.value, ← c.own_bytes.ensures.value) c.remove_part.ensures.value in
    let was_held : false ≡ is_some (find bytes_cmp k.key (rows_at k.prefix parts)) =
    rw (← c.prefix.ensures.value, ← c.own_bytes.ensures.value) (sym c.if-remove_part.false ∙ c.remove_part.ensures.was_held) in
    let lengths : 0 + length (table_of new) ≡ length (table_of parts) = length_forgotten k parts new c.self.invariant.parts is false was_held in
    record {
      parts = parts_forgotten k parts new c.self.invariant.parts is;
      counted = omega (arith, lengths, c.self.invariant.counted);
    }

pub returns-then-remove_part : goal.returns-then-remove_part
returns-then-remove_part c =
    rw (← c.self.view_is) (table_forgotten c.args.key.now c.self.inside.parts.entries c.remove_part.new.parts.entries c.self.invariant.parts
    (rw (← c.prefix.ensures.value, ← c.own_bytes.ensures.value) c.remove_part.ensures.value))

pub returns-else-remove_part : goal.returns-else-remove_part
returns-else-remove_part c =
    rw (← c.self.view_is) (table_forgotten c.args.key.now c.self.inside.parts.entries c.remove_part.new.parts.entries c.self.invariant.parts
    (rw (← c.prefix.ensures.value, ← c.own_bytes.ensures.value) c.remove_part.ensures.value))
