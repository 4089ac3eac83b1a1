use Rattle.std.proofs.Common.{subst}
use Rattle.meta_types.specs.Name.{Key}
use Rattle.node_events.specs.declared.event.NodeEvent.TheVariants as nodes
use Rattle.world_core.specs.declared.event.Event.TheVariants as events
use Rattle.world_core.specs.Outcome.{Outcome}
use Rattle.scenario_commands.proofs.Passing.{same_nodes}
use Rattle.scenario_commands.proofs.Results.{not_so}
use Rattle.scenario_commands.proofs.Staging.{keeps_one}
use Rattle.scenario_commands.proofs.stage.Stage.keep_one.Goals as goal

pub returns-then-lacks_memory-clause-nodes : goal.returns-then-lacks_memory-clause-nodes
returns-then-lacks_memory-clause-nodes c = same_nodes _ _ _ c.apply-outcome.result c.apply-outcome.ensures.passes.comes

pub returns-else-lacks_memory-clause-nodes : goal.returns-else-lacks_memory-clause-nodes
returns-else-lacks_memory-clause-nodes c = same_nodes _ _ _ c.apply-outcome.result c.apply-outcome.ensures.passes.comes

pub returns-else-lacks_memory-clause-keeps : goal.returns-else-lacks_memory-clause-keeps
returns-else-lacks_memory-clause-keeps c =
    let comes = subst (λ (k : Key). Outcome c.args.self.now.world (events.Step c.args.node (nodes.Keep k)) c.apply-outcome.result c.apply-outcome.new.self.world) c.in_ok-key.ensures c.apply-outcome.ensures.passes.comes in
    keeps_one c.args.self.now c.apply-outcome.new.self c.args.node c.args.key.now c.apply-outcome.result comes
    (not_so _ _ c.lacks_memory-lacks_memory.ensures c.if-lacks_memory.false) c.requires c.apply-outcome.ensures.given
