use Rattle.std.proofs.Common.{◌∙◌}
use Rattle.dvvset.proofs.Answered.{answered}
use Rattle.meta_store.specs.Equal.{rows_eq, rows_eq-Decides}
use Rattle.meta_store.proofs.rows.RowsPartialEq.eq.Goals as goal

pub returns-clause-same : goal.returns-clause-same
returns-clause-same c =
    answered c.eq.result (rows_eq c.args.self.now c.args.other.now)
    (c.eq.ensures ∙ (λ i. rows_eq (c.self.view_is i) (c.other.view_is i)))
    (rows_eq-Decides c.args.self.now c.args.other.now)
