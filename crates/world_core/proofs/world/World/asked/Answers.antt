use Rattle.std.proofs.Common.{sym, subst}
use Rattle.node_events.specs.declared.event.NodeEvent.{NodeEvent}
use Rattle.world_core.specs.Steps.{IsNotAsked}
use Rattle.world_core.proofs.Refusing.{junk_refused}
use Rattle.world_core.proofs.world.World.asked.Goals as goal

pub returns-in-Take-clause-refused : goal.returns-in-Take-clause-refused
returns-in-Take-clause-refused c =
    let w = c.args.self.now in
    let fault = c.junk_fault.result in
    subst (λ (e : NodeEvent). IsNotAsked w e fault) (sym c.in-Take.is)
    (λ n low. junk_refused w n c.in-Take.word c.in-Take.frame fault low c.junk_fault.ensures)
