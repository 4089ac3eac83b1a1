use Rattle.std.proofs.Common.{◌++◌, sym, ap, ◌∙◌}
use Rattle.std.specs.Bool.{passes}
use Rattle.std.specs.FinMap.{is_sorted}
use Rattle.meta_types.specs.Order.{prefix_cmp}
use Rattle.meta_store.specs.Table.{prefixes_of}
use Rattle.meta_store.proofs.Kept.{all_prefixes}
use Rattle.meta_store.proofs.store.Store.prefixes.Goals as goal

pub loop-prefix-init : goal.loop-prefix-init
loop-prefix-init c =
    let parts = c.self.inside.parts.entries in
    ap (λ xs. xs ++ c.into_iter-prefix-iterator.result) c.in_ok-prefixes.ensures.items
    ∙ c.into_iter-prefix-iterator.ensures.into_iter_gives
    ∙ c.keys-prefix-items.ensures.rest
    ∙ sym (all_prefixes parts (passes (is_sorted prefix_cmp parts) c.self.invariant.parts.rising) c.self.invariant.parts.filled)
    ∙ ap prefixes_of c.self.view_is
