use Rattle.std.proofs.Common.{◌∙◌}
use Rattle.dvvset.specs.Equal.{counters_eq, counters_eq-Decides}
use Rattle.dvvset.proofs.Answered.{answered}
use Rattle.dvvset.proofs.vector.VectorPartialEq.eq.Goals as goal

pub returns-clause-same : goal.returns-clause-same
returns-clause-same c =
    answered c.eq.result _
    (c.eq.ensures ∙ (λ i. counters_eq (c.as_slice.ensures.value i) (c.as_slice-2.ensures.value i)) ∙ (λ i. counters_eq (c.self.view_is i) (c.other.view_is i)))
    (counters_eq-Decides c.args.self.now c.args.other.now)
