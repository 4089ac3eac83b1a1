use Rattle.std.proofs.Common.{◌∙◌}
use Rattle.meta_types.specs.Order.{bytes_cmp}
use Rattle.meta_types.proofs.Comparing.{bytes_before}
use Rattle.meta_types.proofs.bytes.ByteStringOrd.cmp.Goals as goal

pub returns-clause-before : goal.returns-clause-before
returns-clause-before c = bytes_before c.order.result c.args.self.now c.args.other.now
    (c.order.ensures ∙ (λ i. bytes_cmp (c.as_slice-mine.ensures i) (c.as_slice-others.ensures i)) ∙ (λ i. bytes_cmp (c.self.view_is i) (c.other.view_is i)))
