use Rattle.std.proofs.Common.{sym, ◌∙◌}
use Rattle.std.specs.Ordering.{is_eq}
use Rattle.std.specs.Cmp.Lexicographic.{texts_ties}
use Rattle.meta_types.specs.Order.{bytes_cmp}
use Rattle.meta_types.proofs.bytes.ByteStringPartialEq.eq.Goals as goal

pub returns : goal.returns
returns c =
    c.is_eq.ensures
    ∙ (λ i. is_eq (c.order.ensures i))
    ∙ (λ i. is_eq (bytes_cmp (c.as_slice-mine.ensures i) (c.as_slice-others.ensures i)))
    ∙ (λ i. is_eq (bytes_cmp (c.self.view_is i) (c.other.view_is i)))
    ∙ sym (texts_ties c.args.self.now c.args.other.now)
