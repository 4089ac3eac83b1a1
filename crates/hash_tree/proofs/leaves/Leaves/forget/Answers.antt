use Rattle.std.proofs.Common.{◌≡◌, ℕ, Some, sym, ap, ◌∙◌}
use Rattle.std.specs.Bool.{passes}
use Rattle.std.specs.BTreeMap.{BTreeMap}
use Rattle.std.specs.Cmp.{nat_cmp_total}
use Rattle.std.specs.FinMap.{find, is_sorted, put}
use Rattle.std.specs.Ordering.{nat_cmp}
use Rattle.meta_store.specs.Kept.{without_row}
use Rattle.meta_store.proofs.Maps.{looked_up, written}
use Rattle.hash_tree.specs.Kept.{joined, leaf_at}
use Rattle.hash_tree.specs.Tree.{OwnRows}
use Rattle.hash_tree.proofs.ByLeaf.{joined_left_after, leaf_found, leaves_left_after, none_left_out}
use Rattle.hash_tree.proofs.leaves.Leaves.forget.Goals as goal

pub returns-in_default : goal.returns-in_default
returns-in_default c =
    let leaves = c.self.inside.by_number.entries in
    rw (← c.self.view_is) (
    ap (λ (m : BTreeMap ℕ OwnRows). joined m.entries) c.get_mut.follows.holds-at-none
    ∙ none_left_out c.args.key.now leaves c.self.invariant c.args.leaf c.requires c.in_default.ensures.value)

pub invariant_of-self-2 : goal.invariant_of-self-2
invariant_of-self-2 c =
    let leaves = c.self.inside.by_number.entries in
    let before = c.in-Some.bucket.now in
    let after = c.forget.new.self in
    let new = (c.get_mut.follows.lender after).entries in
    let found : find nat_cmp c.args.leaf leaves ≡ Some before = sym (looked_up nat_cmp c.args.leaf leaves) ∙ sym c.in-Some.ensures.value in
    let is : new ≡ put nat_cmp c.args.leaf (without_row c.args.key.now (leaf_at c.args.leaf leaves)) leaves =
    (c.get_mut.follows.holds after).0
    ∙ written nat_cmp nat_cmp_total c.args.leaf before after leaves (passes (is_sorted nat_cmp leaves) c.self.invariant.rising) found
    ∙ ap (λ rows. put nat_cmp c.args.leaf rows leaves) (c.forget.ensures ∙ ap (without_row c.args.key.now) (sym (leaf_found c.args.leaf before leaves c.in-Some.ensures.value))) in
    leaves_left_after c.args.key.now leaves c.self.invariant c.args.leaf c.requires new is

pub returns : goal.returns
returns c =
    let leaves = c.self.inside.by_number.entries in
    let before = c.in-Some.bucket.now in
    let after = c.forget.new.self in
    let new = (c.get_mut.follows.lender after).entries in
    let found : find nat_cmp c.args.leaf leaves ≡ Some before = sym (looked_up nat_cmp c.args.leaf leaves) ∙ sym c.in-Some.ensures.value in
    let is : new ≡ put nat_cmp c.args.leaf (without_row c.args.key.now (leaf_at c.args.leaf leaves)) leaves =
    (c.get_mut.follows.holds after).0
    ∙ written nat_cmp nat_cmp_total c.args.leaf before after leaves (passes (is_sorted nat_cmp leaves) c.self.invariant.rising) found
    ∙ ap (λ rows. put nat_cmp c.args.leaf rows leaves) (c.forget.ensures ∙ ap (without_row c.args.key.now) (sym (leaf_found c.args.leaf before leaves c.in-Some.ensures.value))) in
    rw (← c.self.view_is) (joined_left_after c.args.key.now leaves c.self.invariant c.args.leaf c.requires new is)
