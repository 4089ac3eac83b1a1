use Rattle.std.proofs.Common.{◌≡◌, true, false, [], ◌∷◌, Some, length, sym, ap, ◌∙◌, arith, refl}
use Rattle.std.specs.Bool.{passes}
use Rattle.std.specs.BTreeMap.{BTreeMap, is_at}
use Rattle.std.specs.FinMap.{find, is_sorted}
use Rattle.std.specs.Map.{lookup, remove_entry, set_value}
use Rattle.meta_types.specs.Name.{Prefix}
use Rattle.meta_types.specs.Order.{prefix_cmp}
use Rattle.meta_store.specs.Kept.{rows_at, with_rows, without_row}
use Rattle.meta_store.proofs.Forgetting.{part_absent, part_emptied, part_lessened}
use Rattle.meta_store.proofs.Kept.{rows_found}
use Rattle.meta_store.proofs.Maps.{looked_up}
use Rattle.hash_tree.specs.Tree.{OwnRows}
use Rattle.hash_tree.proofs.parts.remove_part.Goals as goal

no_rows : (rows : OwnRows) → length rows ≡ 0 → rows ≡ []
no_rows [] none = refl
no_rows (row ∷ rows) none = absurd (omega (arith, none))

pub returns-in_default : goal.returns-in_default
returns-in_default c =
    let parts = c.args.parts.now.entries in
    let k = c.args.key.now in
    ap (λ (m : BTreeMap Prefix OwnRows). m.entries) c.get_mut.follows.holds-at-none
    ∙ part_absent k.prefix k.key parts (rw (← c.prefix.ensures.value) c.in_default.ensures.value)

pub returns-then-is_empty : goal.returns-then-is_empty
returns-then-is_empty c =
    let parts = c.args.parts.now.entries in
    let k = c.args.key.now in
    let before = c.in-Some.tree.now in
    let rows = c.forget.new.self in
    let found : Some before ≡ lookup (is_at (prefix_cmp k.prefix)) parts = rw (← c.prefix.ensures.value) c.in-Some.ensures.value in
    let none : rows ≡ [] = c.is_empty.ensures.0 c.if-is_empty.true in
    let left : rows ≡ without_row k.key (rows_at k.prefix parts) =
    c.forget.ensures ∙ ap (λ n. without_row n before) c.own_bytes.ensures.value ∙ ap (without_row k.key) (sym (rows_found k.prefix before parts found)) in
    c.remove.ensures.entries
    ∙ ap (λ q. remove_entry (is_at (prefix_cmp q)) (c.get_mut.follows.lender rows).entries) c.prefix-then-is_empty.ensures.value
    ∙ ap (remove_entry (is_at (prefix_cmp k.prefix))) ((c.get_mut.follows.holds rows).0 ∙ ap (λ q. set_value (is_at (prefix_cmp q)) parts rows) c.prefix.ensures.value)
    ∙ part_emptied k.prefix k.key rows parts (passes (is_sorted prefix_cmp parts) c.requires.rising) (ap length none)
    ∙ ap (λ rs. with_rows k.prefix rs parts) left

pub returns-else-is_empty : goal.returns-else-is_empty
returns-else-is_empty c =
    let parts = c.args.parts.now.entries in
    let k = c.args.key.now in
    let before = c.in-Some.tree.now in
    let rows = c.forget.new.self in
    let found : Some before ≡ lookup (is_at (prefix_cmp k.prefix)) parts = rw (← c.prefix.ensures.value) c.in-Some.ensures.value in
    let there : find prefix_cmp k.prefix parts ≡ Some before = sym (looked_up prefix_cmp k.prefix parts) ∙ sym found in
    let left : rows ≡ without_row k.key (rows_at k.prefix parts) =
    c.forget.ensures ∙ ap (λ n. without_row n before) c.own_bytes.ensures.value ∙ ap (without_row k.key) (sym (rows_found k.prefix before parts found)) in
    (c.get_mut.follows.holds rows).0
    ∙ ap (λ q. set_value (is_at (prefix_cmp q)) parts rows) c.prefix.ensures.value
    ∙ part_lessened k.prefix k.key before rows parts (passes (is_sorted prefix_cmp parts) c.requires.rising) there
    (λ none. let clash : false ≡ true = sym c.if-is_empty.false ∙ c.is_empty.ensures.1 (no_rows rows none) in cc)
    ∙ ap (λ rs. with_rows k.prefix rs parts) left
