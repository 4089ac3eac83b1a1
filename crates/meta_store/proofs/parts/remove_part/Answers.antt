use Rattle.std.proofs.Common.{◌≡◌, Some, sym, ap, ◌∙◌}
use Rattle.std.specs.Bool.{passes}
use Rattle.std.specs.BTreeMap.{BTreeMap, is_at}
use Rattle.std.specs.FinMap.{find, is_sorted}
use Rattle.std.specs.Map.{remove_entry}
use Rattle.meta_types.specs.Name.{Prefix}
use Rattle.meta_types.specs.Order.{prefix_cmp}
use Rattle.meta_store.specs.Kept.{Rows, with_rows, without_row}
use Rattle.meta_store.proofs.Forgetting.{part_absent, part_emptied, part_lessened}
use Rattle.meta_store.proofs.Kept.{rows_found}
use Rattle.meta_store.proofs.Maps.{looked_up}
use Rattle.meta_store.proofs.parts.remove_part.Goals as goal

pub returns-in_default-clause-value : goal.returns-in_default-clause-value
returns-in_default-clause-value c =
    let parts = c.args.parts.now.entries in
    ap (λ (m : BTreeMap Prefix Rows). m.entries) c.get_mut.follows.holds-at-none ∙ part_absent c.args.prefix.now c.args.key.now parts c.in_default.ensures.value

pub returns-then-len-eq0-clause-value : goal.returns-then-len-eq0-clause-value
returns-then-len-eq0-clause-value c =
    let parts = c.args.parts.now.entries in
    let p = c.args.prefix.now in
    let rows = c.forget-was_held.new.self in
    c.remove.ensures.entries
    ∙ ap (remove_entry (is_at (prefix_cmp p))) (c.get_mut.follows.holds rows).0
    ∙ part_emptied p c.args.key.now rows parts (passes (is_sorted prefix_cmp parts) c.requires.rising) (sym c.len.ensures ∙ c.if-len-eq0.true)
    ∙ ap (λ rs. with_rows p rs parts) (c.forget-was_held.ensures.value ∙ ap (without_row c.args.key.now) (sym (rows_found p c.in-Some.rows.now parts c.in-Some.ensures.value)))

pub returns-else-len-eq0-clause-value : goal.returns-else-len-eq0-clause-value
returns-else-len-eq0-clause-value c =
    let parts = c.args.parts.now.entries in
    let p = c.args.prefix.now in
    let rows = c.forget-was_held.new.self in
    let before = c.in-Some.rows.now in
    let found : find prefix_cmp p parts ≡ Some before = sym (looked_up prefix_cmp p parts) ∙ sym c.in-Some.ensures.value in
    (c.get_mut.follows.holds rows).0
    ∙ part_lessened p c.args.key.now before rows parts (passes (is_sorted prefix_cmp parts) c.requires.rising) found (λ none. c.if-len-eq0.false (c.len.ensures ∙ none))
    ∙ ap (λ rs. with_rows p rs parts) (c.forget-was_held.ensures.value ∙ ap (without_row c.args.key.now) (sym (rows_found p before parts c.in-Some.ensures.value)))
