use Rattle.std.proofs.Common.{refl}
use Rattle.scenario_commands.proofs.Sending.{printing_more}
use Rattle.scenario_commands.proofs.print.print_frames.Goals as goal

pub loop-offset-preserved : goal.loop-offset-preserved
loop-offset-preserved c =
    let told = c.in_ok-print_frame_of.ensures in
    printing_more c.args.world.now c.args.sent.first c.loop-offset.offset _ told.0 _ _ _ c.loop-offset.invariant refl told.1.0 told.1.1
