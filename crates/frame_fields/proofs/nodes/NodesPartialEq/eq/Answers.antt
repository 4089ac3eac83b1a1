use Rattle.std.proofs.Common.{◌∙◌}
use Rattle.dvvset.proofs.Answered.{answered}
use Rattle.frame_fields.specs.Equal.{nodes_eq, nodes_eq-Decides}
use Rattle.frame_fields.proofs.nodes.NodesPartialEq.eq.Goals as goal

pub returns-clause-same : goal.returns-clause-same
returns-clause-same c =
    answered c.eq.result _
    (c.eq.ensures ∙ (λ i. nodes_eq (c.as_slice.ensures.value i) (c.as_slice-2.ensures.value i)) ∙ (λ i. nodes_eq (c.self.view_is i) (c.other.view_is i)))
    (nodes_eq-Decides c.args.self.now c.args.other.now)
