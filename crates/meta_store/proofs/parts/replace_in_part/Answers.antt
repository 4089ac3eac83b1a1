use Rattle.std.proofs.Common.{◌≡◌, [], Some, sym, ap, ◌∙◌}
use Rattle.std.specs.Bool.{passes}
use Rattle.std.specs.BTreeMap.{is_at}
use Rattle.std.specs.FinMap.{find, is_sorted, put}
use Rattle.std.specs.Map.{set_value}
use Rattle.std.specs.Option.{unwrap_or}
use Rattle.meta_types.specs.Order.{bytes_cmp, prefix_cmp}
use Rattle.meta_store.proofs.Kept.{prefix_total}
use Rattle.meta_store.proofs.Maps.{looked_up, on_err_more, on_ok_more, written, written_back}
use Rattle.meta_store.proofs.parts.replace_in_part.Goals as goal

pub returns-clause-value : goal.returns-clause-value
returns-clause-value c =
    let parts = c.args.parts.now.entries in
    let p = c.args.prefix.now in
    let before = c.in-Some.rows.now in
    let found : find prefix_cmp p parts ≡ Some before = sym (looked_up prefix_cmp p parts) ∙ sym c.in-Some.ensures.value in
    on_ok_more c.replace.result (λ is.
    (c.get_mut.follows.holds c.replace.new.self).0
    ∙ written prefix_cmp prefix_total p before c.replace.new.self parts (passes (is_sorted prefix_cmp parts) c.requires.rising) found
    ∙ ap (λ rows. put prefix_cmp p rows parts) (is ∙ ap (λ rows. put bytes_cmp c.args.key.now c.args.object (unwrap_or rows [])) (sym found)))
    c.replace.ensures.value

pub returns-clause-same : goal.returns-clause-same
returns-clause-same c =
    let parts = c.args.parts.now.entries in
    let p = c.args.prefix.now in
    let before = c.in-Some.rows.now in
    let found : find prefix_cmp p parts ≡ Some before = sym (looked_up prefix_cmp p parts) ∙ sym c.in-Some.ensures.value in
    on_err_more c.replace.result (λ is.
    (c.get_mut.follows.holds c.replace.new.self).0
    ∙ ap (set_value (is_at (prefix_cmp p)) parts) is
    ∙ written_back prefix_cmp p before parts found)
    c.replace.ensures.same
