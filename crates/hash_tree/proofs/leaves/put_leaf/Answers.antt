use Rattle.std.proofs.Common.{◌≡◌, ℕ, [], Some, sym, ap, ◌∙◌}
use Rattle.std.specs.Bool.{passes}
use Rattle.std.specs.BTreeMap.{BTreeMap, insert_entry, is_at}
use Rattle.std.specs.Cmp.{nat_cmp_total}
use Rattle.std.specs.FinMap.{find, put, is_sorted}
use Rattle.std.specs.Map.{set_value}
use Rattle.std.specs.Option.{unwrap_or}
use Rattle.std.specs.Ordering.{nat_cmp}
use Rattle.meta_types.specs.Order.{bytes_cmp}
use Rattle.meta_store.proofs.Maps.{inserted, looked_up, on_err_more, on_ok_more, written, written_back}
use Rattle.hash_tree.specs.Tree.{OwnRows}
use Rattle.hash_tree.proofs.ByLeaf.{leaf_absent}
use Rattle.hash_tree.proofs.leaves.put_leaf.Goals as goal

pub returns-in-Some-clause-value : goal.returns-in-Some-clause-value
returns-in-Some-clause-value c =
    let leaves = c.args.leaves.now.entries in
    let before = c.in-Some.bucket.now in
    let found : find nat_cmp c.args.leaf leaves ≡ Some before = sym (looked_up nat_cmp c.args.leaf leaves) ∙ sym c.in-Some.ensures.value in
    on_ok_more c.hold.result (λ is.
    (c.get_mut.follows.holds c.hold.new.self).0
    ∙ written nat_cmp nat_cmp_total c.args.leaf before c.hold.new.self leaves (passes (is_sorted nat_cmp leaves) c.requires.rising) found
    ∙ ap (λ rows. put nat_cmp c.args.leaf rows leaves) (is ∙ ap (λ rows. put bytes_cmp c.args.key.now c.args.digest (unwrap_or rows [])) (sym found)))
    c.hold.ensures.value

pub returns-in-Some-clause-same : goal.returns-in-Some-clause-same
returns-in-Some-clause-same c =
    let leaves = c.args.leaves.now.entries in
    let before = c.in-Some.bucket.now in
    let found : find nat_cmp c.args.leaf leaves ≡ Some before = sym (looked_up nat_cmp c.args.leaf leaves) ∙ sym c.in-Some.ensures.value in
    on_err_more c.hold.result (λ is.
    (c.get_mut.follows.holds c.hold.new.self).0
    ∙ ap (set_value (is_at (nat_cmp c.args.leaf)) leaves) is
    ∙ written_back nat_cmp c.args.leaf before leaves found)
    c.hold.ensures.same

pub returns-clause-value : goal.returns-clause-value
returns-clause-value c =
    let leaves = c.args.leaves.now.entries in
    let bucket = c.in_ok-bucket.bucket in
    c.in_ok-insert.ensures.entries
    ∙ ap (λ (m : BTreeMap ℕ OwnRows). insert_entry nat_cmp m.entries c.args.leaf bucket) c.get_mut.follows.holds-at-none
    ∙ inserted nat_cmp c.args.leaf bucket leaves
    ∙ ap (λ rows. put nat_cmp c.args.leaf rows leaves) (rw (← c.in_ok-copy.ensures) c.in_ok-bucket.ensures ∙ ap (put bytes_cmp c.args.key.now c.args.digest) (sym (leaf_absent c.args.leaf leaves c.in_default.ensures.value)))
