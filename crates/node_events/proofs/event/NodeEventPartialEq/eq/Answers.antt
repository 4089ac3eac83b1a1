use Rattle.std.proofs.Common.{rules, ◌≡◌, Bool, IsTrue, ◌↔◌, sym, ◌∙◌}
use Rattle.node_events.specs.EqualEvents.{event_eq, event_eq-Decides}
use Rattle.node_events.specs.declared.event.NodeEvent.{NodeEvent}
use Rattle.node_events.proofs.event.NodeEventPartialEq.eq.Goals as goal

-- an answer that is that of the comparison says whether two events are the same
same_by : (r : Bool) (e f : NodeEvent) → r ≡ event_eq e f → IsTrue r ↔ (e ≡ f)
same_by r e f is =
    let decides = event_eq-Decides e f in
    ((λ yes. decides.0 (sym is ∙ yes)), (λ same. is ∙ decides.1 same))

pub returns-in-Write-default-clause-same : goal.returns-in-Write-default-clause-same
returns-in-Write-default-clause-same c =
    same_by _ c.args.self.now c.args.other.now (search rules)
