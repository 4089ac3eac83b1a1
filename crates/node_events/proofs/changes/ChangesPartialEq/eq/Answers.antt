use Rattle.std.proofs.Common.{rules, ◌≡◌, sym, ◌∙◌}
use Rattle.node_events.specs.Equal.{changes_eq, changes_eq-Decides}
use Rattle.node_events.proofs.changes.ChangesPartialEq.eq.Goals as goal

pub returns-clause-same : goal.returns-clause-same
returns-clause-same c =
    let is : c.eq.result ≡ changes_eq c.args.self.now c.args.other.now = search rules in
    let decides = changes_eq-Decides c.args.self.now c.args.other.now in
    ((λ yes. decides.0 (sym is ∙ yes)), (λ same. is ∙ decides.1 same))
