use Rattle.std.proofs.Common.{sym, ap, subst}
use Rattle.world_core.specs.World.{World}
use Rattle.scenario_commands.specs.Coded.{HasSent}
use Rattle.scenario_commands.specs.Obeying.{Stage}
use Rattle.scenario_commands.proofs.Passing.{has_sent}
use Rattle.scenario_commands.proofs.stage.Stage.happen.Goals as goal

pub print_outcome-done-requires : goal.print_outcome-done-requires
print_outcome-done-requires c =
    subst (λ (w : World). HasSent w c.apply-outcome.result) (sym (ap (λ (s : Stage). s.world) c.self.view_is))
    (has_sent _ _ _ c.apply-outcome.result c.apply-outcome.ensures.passes.comes)
