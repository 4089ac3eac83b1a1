use Rattle.std.proofs.Common.{◌≡◌, [], Some, sym, ap, ◌∙◌}
use Rattle.std.specs.Bool.{passes}
use Rattle.std.specs.BTreeMap.{BTreeMap, insert_entry, is_at}
use Rattle.std.specs.FinMap.{find, put, is_sorted}
use Rattle.std.specs.Map.{set_value}
use Rattle.std.specs.Option.{unwrap_or}
use Rattle.meta_types.specs.Name.{Prefix}
use Rattle.meta_types.specs.Order.{bytes_cmp, prefix_cmp}
use Rattle.meta_store.specs.Kept.{Rows}
use Rattle.meta_store.proofs.Kept.{prefix_total, rows_absent}
use Rattle.meta_store.proofs.Maps.{inserted, looked_up, on_err_more, on_ok_more, written, written_back}
use Rattle.meta_store.proofs.parts.put_part.Goals as goal

pub returns-in-Some-clause-value : goal.returns-in-Some-clause-value
returns-in-Some-clause-value c =
    let parts = c.args.parts.now.entries in
    let before = c.in-Some.rows.now in
    let found : find prefix_cmp c.args.prefix parts ≡ Some before = sym (looked_up prefix_cmp c.args.prefix parts) ∙ sym c.in-Some.ensures.value in
    on_ok_more c.hold.result (λ is.
    (c.get_mut.follows.holds c.hold.new.self).0
    ∙ written prefix_cmp prefix_total c.args.prefix before c.hold.new.self parts (passes (is_sorted prefix_cmp parts) c.requires.rising) found
    ∙ ap (λ rows. put prefix_cmp c.args.prefix rows parts) (is ∙ ap (λ rows. put bytes_cmp c.args.key c.args.object (unwrap_or rows [])) (sym found)))
    c.hold.ensures.value

pub returns-in-Some-clause-same : goal.returns-in-Some-clause-same
returns-in-Some-clause-same c =
    let parts = c.args.parts.now.entries in
    let before = c.in-Some.rows.now in
    let found : find prefix_cmp c.args.prefix parts ≡ Some before = sym (looked_up prefix_cmp c.args.prefix parts) ∙ sym c.in-Some.ensures.value in
    on_err_more c.hold.result (λ is.
    (c.get_mut.follows.holds c.hold.new.self).0
    ∙ ap (set_value (is_at (prefix_cmp c.args.prefix)) parts) is
    ∙ written_back prefix_cmp c.args.prefix before parts found)
    c.hold.ensures.same

pub returns-clause-value : goal.returns-clause-value
returns-clause-value c =
    let parts = c.args.parts.now.entries in
    let rows = c.in_ok-rows.rows in
    c.in_ok-insert.ensures.entries
    ∙ ap (λ (m : BTreeMap Prefix Rows). insert_entry prefix_cmp m.entries c.args.prefix rows) c.get_mut.follows.holds-at-none
    ∙ inserted prefix_cmp c.args.prefix rows parts
    ∙ ap (λ rs. put prefix_cmp c.args.prefix rs parts) (c.in_ok-rows.ensures ∙ ap (put bytes_cmp c.args.key c.args.object) (sym (rows_absent c.args.prefix parts c.in_default.ensures.value)))
