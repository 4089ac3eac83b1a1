use Rattle.std.proofs.Common.{sym, ◌∙◌}
use Rattle.meta_store.specs.Equal.{table_eq-Decides}
use Rattle.run_record.proofs.checks.are_same.Goals as goal

pub returns : goal.returns
returns c =
    let decides = table_eq-Decides c.args.one.now c.args.other.now in
    (λ same. decides.0 (sym c.eq.ensures ∙ same), λ same. c.eq.ensures ∙ decides.1 same)
