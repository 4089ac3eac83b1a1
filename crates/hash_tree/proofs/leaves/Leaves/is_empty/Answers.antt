use Rattle.std.proofs.Common.{◌≡◌, true, false, sym, ap, ◌∙◌}
use Rattle.hash_tree.proofs.ByLeaf.{rows_in, rows_in_leaves, some_first}
use Rattle.hash_tree.proofs.leaves.Leaves.is_empty.Goals as goal

pub loop-bucket-init : goal.loop-bucket-init
loop-bucket-init c =
    ap rows_in (c.into_iter-bucket-iterator.ensures.into_iter_gives ∙ c.values-bucket-items.ensures.rest) ∙ rows_in_leaves c.self.inside.by_number.entries ∙ c.self.view_is

pub returns-then-not-is_empty : goal.returns-then-not-is_empty
returns-then-not-is_empty c = (
  (λ never. let clash : false ≡ true = never in cc),
  (λ none. let some = some_first c.in-Some.bucket.now c.next.new.self
      (λ empty. let clash : false ≡ true = sym c.if-not-is_empty.true ∙ c.is_empty.ensures.1 empty in cc)
      in absurd (some (ap rows_in (sym c.in-Some.ensures.steps) ∙ c.loop-bucket.invariant ∙ none))),
)
