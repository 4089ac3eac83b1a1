use Rattle.world_core.proofs.Retelling.{on_ok}
use Rattle.world_core.proofs.world.World.tell_frame.Goals as goal

pub returns : goal.returns
returns c = on_ok c.frame-outcome.result (λ told. (c.in_ok-frame.frame, (c.in_ok-frame.ensures, told))) c.frame-outcome.ensures
