use Rattle.std.proofs.Common.{◌<◌, ℕ, length, Result, Ok, Err, IfErr, sym, subst}
use Rattle.node_events.specs.declared.event.NodeEvent.{NodeEvent}
use Rattle.world_core.specs.Steps.{IsNotAsked, MayRefuse}
use Rattle.world_core.specs.World.{World}
use Rattle.world_core.specs.declared.event.Event.{Event}
use Rattle.world_core.specs.declared.event.Event.TheVariants as events
use Rattle.world_core.specs.declared.fault.WorldFault.{WorldFault}
use Rattle.world_core.specs.Events.{node_of_event}
use Rattle.world_core.proofs.world.World.step_of.Goals as goal

at_node : {A : Type 0} (r : Result A WorldFault) (w : World) (event : NodeEvent) (n : ℕ)
    → n < length w.nodes → IfErr r (IsNotAsked w event) → IfErr r (MayRefuse w (events.Step n event))
at_node (Ok step) w event n low fails = tt
at_node (Err fault) w event n low fails = fails n low

pub returns-in-Step-clause-refused : goal.returns-in-Step-clause-refused
returns-in-Step-clause-refused c =
    let w = c.args.self.now in
    let low : c.in-Step.node < length w.nodes =
    subst (λ (e : Event). node_of_event e < length w.nodes) c.in-Step.is c.requires.node in
    subst (λ (e : Event). IfErr c.asked.result (MayRefuse w e)) (sym c.in-Step.is)
    (at_node c.asked.result w c.in-Step.event c.in-Step.node low c.asked.ensures.refused)
