use Rattle.std.proofs.Common.{◌∙◌}
use Rattle.std.specs.Ordering.{ordering_then}
use Rattle.meta_types.specs.Order.{key_cmp}
use Rattle.meta_types.proofs.Comparing.{key_before}
use Rattle.meta_types.proofs.key.MetaKeyOrd.cmp.Goals as goal

pub returns-clause-before : goal.returns-clause-before
returns-clause-before c =
    key_before c.then.result c.args.self.now c.args.other.now
    (c.then.ensures ∙ (λ i. ordering_then (c.cmp.ensures.value i) (c.cmp-2.ensures.value i)) ∙ (λ i. key_cmp (c.self.view_is i) (c.other.view_is i)))
