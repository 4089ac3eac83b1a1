use Rattle.std.proofs.Common.{arith}
use Rattle.scenario_commands.proofs.Marks.{waits_within}
use Rattle.scenario_commands.proofs.Passing.{more_frames}
use Rattle.scenario_commands.proofs.Results.{not_so, on_ok}
use Rattle.scenario_commands.proofs.Staging.{hands_on}
use Rattle.scenario_commands.proofs.stage.Stage.hand_on.Goals as goal

pub mark-requires : goal.mark-requires
mark-requires c =
    let there = waits_within 1 c.args.frame c.args.self.now.given c.requires in
    let more = more_frames _ _ _ c.apply-outcome.result c.apply-outcome.ensures.passes.comes in
    (there.0, omega (arith, there.1, more, c.apply-outcome.ensures.marks))

pub returns : goal.returns
returns c =
    on_ok c.mark.result
    (hands_on c.args.self.now c.apply-outcome.new.self c.mark.new.self c.args.frame c.in_ok-node.node c.apply-outcome.result c.in_ok-node.ensures c.requires c.apply-outcome.ensures.passes.comes
    (not_so _ _ c.lacks_memory-lacks_memory.ensures c.if-lacks_memory.false) c.apply-outcome.ensures.given c.mark.ensures.world) c.mark.ensures.given
