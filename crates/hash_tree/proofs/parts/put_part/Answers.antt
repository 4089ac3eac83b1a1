use Rattle.std.proofs.Common.{◌≡◌, ℕ, List, [], Some, None, sym, ap, ◌∙◌}
use Rattle.std.specs.Bool.{passes}
use Rattle.std.specs.BTreeMap.{BTreeMap, insert_entry, is_at}
use Rattle.std.specs.FinMap.{find, put, is_sorted}
use Rattle.std.specs.Map.{lookup, set_value}
use Rattle.std.specs.Option.{unwrap_or}
use Rattle.meta_types.specs.Name.{Prefix}
use Rattle.meta_types.specs.Order.{bytes_cmp, prefix_cmp}
use Rattle.meta_store.specs.Kept.{rows_at}
use Rattle.meta_store.proofs.Kept.{prefix_total, rows_absent}
use Rattle.meta_store.proofs.Maps.{always, inserted, looked_up, on_err_more, on_ok_more, written, written_back}
use Rattle.hash_tree.specs.Tree.{OwnRows}
use Rattle.hash_tree.proofs.parts.put_part.Goals as goal

pub returns-in-Some-clause-value : goal.returns-in-Some-clause-value
returns-in-Some-clause-value c =
    let parts = c.args.parts.now.entries in
    let k = c.args.key.now in
    let before = c.in-Some.tree.now in
    let found : find prefix_cmp k.prefix parts ≡ Some before = sym (looked_up prefix_cmp k.prefix parts) ∙ sym (rw (← c.prefix.ensures.value) c.in-Some.ensures.value) in
    on_ok_more c.hold.result (λ is.
    (c.get_mut.follows.holds c.hold.new.self).0
    ∙ ap (λ q. set_value (is_at (prefix_cmp q)) parts c.hold.new.self) c.prefix.ensures.value
    ∙ written prefix_cmp prefix_total k.prefix before c.hold.new.self parts (passes (is_sorted prefix_cmp parts) c.requires.rising) found
    ∙ ap (λ rows. put prefix_cmp k.prefix rows parts) (is ∙ ap (λ n. put bytes_cmp n c.args.digest before) c.own_bytes.ensures.value ∙ ap (λ rows. put bytes_cmp k.key c.args.digest (unwrap_or rows [])) (sym found)))
    c.hold.ensures.value

pub returns-in-Some-clause-absent : goal.returns-in-Some-clause-absent
returns-in-Some-clause-absent c =
    let parts = c.args.parts.now.entries in
    let k = c.args.key.now in
    let before = c.in-Some.tree.now in
    let found : find prefix_cmp k.prefix parts ≡ Some before = sym (looked_up prefix_cmp k.prefix parts) ∙ sym (rw (← c.prefix.ensures.value) c.in-Some.ensures.value) in
    on_err_more c.hold.result (λ none.
    ap (λ rows. find bytes_cmp k.key (unwrap_or rows [])) found ∙ ap (λ n. find bytes_cmp n before) (sym c.own_bytes.ensures.value) ∙ none)
    c.hold.ensures.absent

pub returns-in-Some-clause-same : goal.returns-in-Some-clause-same
returns-in-Some-clause-same c =
    let parts = c.args.parts.now.entries in
    let k = c.args.key.now in
    let before = c.in-Some.tree.now in
    let found : find prefix_cmp k.prefix parts ≡ Some before = sym (looked_up prefix_cmp k.prefix parts) ∙ sym (rw (← c.prefix.ensures.value) c.in-Some.ensures.value) in
    on_err_more c.hold.result (λ is.
    (c.get_mut.follows.holds c.hold.new.self).0
    ∙ ap (λ q. set_value (is_at (prefix_cmp q)) parts c.hold.new.self) c.prefix.ensures.value
    ∙ ap (set_value (is_at (prefix_cmp k.prefix)) parts) is
    ∙ written_back prefix_cmp k.prefix before parts found)
    c.hold.ensures.same

-- a full prefix that isn't found has no key
absent : (p q : Prefix) (key : List ℕ) (parts : List (Prefix × OwnRows)) → q ≡ p → None ≡ lookup (is_at (prefix_cmp q)) parts → find bytes_cmp key (rows_at p parts) ≡ None
absent p q key parts e none = ap (find bytes_cmp key) (rows_absent p parts (none ∙ ap (λ r. lookup (is_at (prefix_cmp r)) parts) e))

pub returns-in_err-tree-clause-absent : goal.returns-in_err-tree-clause-absent
returns-in_err-tree-clause-absent c =
    always c.from_residual.result (absent c.args.key.now.prefix c.prefix.result.now c.args.key.now.key c.args.parts.now.entries c.prefix.ensures.value c.in_default.ensures.value)

pub returns-in_err-hold-clause-absent : goal.returns-in_err-hold-clause-absent
returns-in_err-hold-clause-absent c =
    always c.from_residual-in_err-hold.result (absent c.args.key.now.prefix c.prefix.result.now c.args.key.now.key c.args.parts.now.entries c.prefix.ensures.value c.in_default.ensures.value)

pub returns-in_err-copy-clause-absent : goal.returns-in_err-copy-clause-absent
returns-in_err-copy-clause-absent c =
    always c.from_residual-in_err-copy.result (absent c.args.key.now.prefix c.prefix.result.now c.args.key.now.key c.args.parts.now.entries c.prefix.ensures.value c.in_default.ensures.value)

pub returns-in_err-insert-clause-absent : goal.returns-in_err-insert-clause-absent
returns-in_err-insert-clause-absent c =
    always c.from_residual-in_err-insert.result (absent c.args.key.now.prefix c.prefix.result.now c.args.key.now.key c.args.parts.now.entries c.prefix.ensures.value c.in_default.ensures.value)

pub returns-clause-value : goal.returns-clause-value
returns-clause-value c =
    let parts = c.args.parts.now.entries in
    let k = c.args.key.now in
    let tree = c.hold-2.new.self in
    let none = c.in_default.ensures.value ∙ ap (λ r. lookup (is_at (prefix_cmp r)) parts) c.prefix.ensures.value in
    c.in_ok-insert.ensures.entries
    ∙ ap (λ (m : BTreeMap Prefix OwnRows). insert_entry prefix_cmp m.entries c.in_ok-copy.field-0 tree) c.get_mut.follows.holds-at-none
    ∙ inserted prefix_cmp c.in_ok-copy.field-0 tree parts
    ∙ ap (λ q. put prefix_cmp q tree parts) (c.in_ok-copy.ensures ∙ c.prefix-2.ensures.value)
    ∙ ap (λ rows. put prefix_cmp k.prefix rows parts) (c.in_ok-hold.ensures.value ∙ ap (λ n. put bytes_cmp n c.args.digest c.in_ok-tree.tree) c.own_bytes-2.ensures.value ∙ ap (put bytes_cmp k.key c.args.digest) (c.in_ok-tree.ensures ∙ sym (rows_absent k.prefix parts none)))
