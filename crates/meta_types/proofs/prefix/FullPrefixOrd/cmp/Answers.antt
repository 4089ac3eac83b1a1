use Rattle.std.proofs.Common.{◌∙◌}
use Rattle.std.specs.Ordering.{ordering_then}
use Rattle.meta_types.specs.Order.{prefix_cmp}
use Rattle.meta_types.proofs.Comparing.{prefix_before}
use Rattle.meta_types.proofs.prefix.FullPrefixOrd.cmp.Goals as goal

pub returns-clause-before : goal.returns-clause-before
returns-clause-before c =
    prefix_before c.then.result c.args.self.now c.args.other.now
    (c.then.ensures ∙ (λ i. ordering_then (c.cmp.ensures.value i) (c.cmp-2.ensures.value i)) ∙ (λ i. prefix_cmp (c.self.view_is i) (c.other.view_is i)))
