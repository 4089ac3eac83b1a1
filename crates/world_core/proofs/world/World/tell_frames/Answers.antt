use Rattle.std.proofs.Common.{◌∙◌}
use Rattle.world_core.proofs.Retelling.{next_told}
use Rattle.world_core.proofs.world.World.tell_frames.Goals as goal

pub loop-offset-preserved : goal.loop-offset-preserved
loop-offset-preserved c =
    let told = c.in_ok-tell_frame.ensures in
    λ frames spelled.
    told.1.1
    ∙ next_told c.args.self.now frames spelled c.args.node c.args.numbers c.requires.first c.loop-offset.offset told.0 told.1.0 c.args.told.now c.loop-offset.told (c.loop-offset.invariant frames spelled)
