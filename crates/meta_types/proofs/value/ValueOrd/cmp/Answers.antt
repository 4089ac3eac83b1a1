use Rattle.std.proofs.Common.{◌∙◌}
use Rattle.std.specs.Ordering.{ordering_then}
use Rattle.meta_types.specs.Order.{value_cmp}
use Rattle.meta_types.proofs.Comparing.{value_before}
use Rattle.meta_types.proofs.value.ValueOrd.cmp.Goals as goal

pub returns-clause-before : goal.returns-clause-before
returns-clause-before c = value_before c.then.result c.args.self.now c.args.other.now
    (c.then.ensures ∙ (λ i. ordering_then (c.cmp-stamps.ensures i) (c.cmp.ensures i)) ∙ (λ i. value_cmp (c.self.view_is i) (c.other.view_is i)))
