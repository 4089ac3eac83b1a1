use Rattle.std.proofs.Common.{◌≡◌, Some, None, IfOk, OnOk, OnErr, ◌∙◌}
use Rattle.std.specs.Bool.{passes}
use Rattle.std.specs.FinMap.{find, is_sorted, put}
use Rattle.meta_types.specs.Order.{bytes_cmp, key_cmp, prefix_cmp}
use Rattle.meta_store.specs.Kept.{rows_at, table_of}
use Rattle.meta_store.proofs.Holding.{table_after}
use Rattle.meta_store.proofs.Kept.{find_row}
use Rattle.meta_store.proofs.Maps.{if_ok_more, on_err_more, on_ok_more}
use Rattle.meta_store.proofs.Tables.{found_row}
use Rattle.meta_store.proofs.Writing.{kept_replaced}
use Rattle.meta_store.proofs.store.Store.replace.Goals as goal

pub invariant_of-self : goal.invariant_of-self
invariant_of-self c =
    let k = c.args.key.now in
    let parts = c.self.inside.parts.entries in
    let new = c.replace_in_part.new.parts.entries in
    let r = c.replace_in_part.result in
    let value : OnOk r (new ≡ put prefix_cmp k.prefix (put bytes_cmp k.key c.args.object (rows_at k.prefix parts)) parts) =
    rw (← c.prefix.ensures.value, ← c.own_bytes.ensures.value) c.replace_in_part.ensures.value in
    let before : IfOk r (λ before. find bytes_cmp k.key (rows_at k.prefix parts) ≡ Some before) =
    rw (← c.prefix.ensures.value, ← c.own_bytes.ensures.value) c.replace_in_part.ensures.before in
    let all = kept_replaced k c.args.object parts new c.self.invariant.parts c.self.inside.len r c.own_bytes.ensures.in_range c.requires c.self.invariant.counted
    value before c.replace_in_part.ensures.same in
    record { parts = all.0; counted = all.1 }

pub returns-clause-value : goal.returns-clause-value
returns-clause-value c =
    let k = c.args.key.now in
    let parts = c.self.inside.parts.entries in
    let new = c.replace_in_part.new.parts.entries in
    let value : OnOk c.replace_in_part.result (new ≡ put prefix_cmp k.prefix (put bytes_cmp k.key c.args.object (rows_at k.prefix parts)) parts) =
    rw (← c.prefix.ensures.value, ← c.own_bytes.ensures.value) c.replace_in_part.ensures.value in
    rw (← c.self.view_is) (on_ok_more c.replace_in_part.result (λ is. table_after k c.args.object parts new c.self.invariant.parts is) value)

pub returns-clause-before : goal.returns-clause-before
returns-clause-before c =
    let k = c.args.key.now in
    let parts = c.self.inside.parts.entries in
    let before : IfOk c.replace_in_part.result (λ before. find bytes_cmp k.key (rows_at k.prefix parts) ≡ Some before) =
    rw (← c.prefix.ensures.value, ← c.own_bytes.ensures.value) c.replace_in_part.ensures.before in
    rw (← c.self.view_is) (if_ok_more c.replace_in_part.result
    (λ object is. find_row k parts (passes (is_sorted prefix_cmp parts) c.self.invariant.parts.rising) ∙ is)
    before)

pub returns-clause-lawful : goal.returns-clause-lawful
returns-clause-lawful c =
    let k = c.args.key.now in
    let parts = c.self.inside.parts.entries in
    let table = c.self.invariant.parts.table in
    let before : IfOk c.replace_in_part.result (λ before. find key_cmp k (table_of parts) ≡ Some before) = rw c.self.view_is (returns-clause-before c) in
    if_ok_more c.replace_in_part.result (λ object is. (found_row k (table_of parts) object table.held table.keys is).held) before

pub returns-clause-absent : goal.returns-clause-absent
returns-clause-absent c =
    let k = c.args.key.now in
    let parts = c.self.inside.parts.entries in
    let absent : OnErr c.replace_in_part.result (find bytes_cmp k.key (rows_at k.prefix parts) ≡ None) =
    rw (← c.prefix.ensures.value, ← c.own_bytes.ensures.value) c.replace_in_part.ensures.absent in
    rw (← c.self.view_is) (on_err_more c.replace_in_part.result
    (λ is. find_row k parts (passes (is_sorted prefix_cmp parts) c.self.invariant.parts.rising) ∙ is)
    absent)
