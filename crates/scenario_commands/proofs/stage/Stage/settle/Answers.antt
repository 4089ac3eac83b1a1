use Rattle.std.proofs.Common.{sym, ◌∙◌}
use Rattle.scenario_commands.proofs.Staging.{goes_on}
use Rattle.scenario_commands.proofs.stage.Stage.settle.Goals as goal

pub returns-then-is_some : goal.returns-then-is_some
returns-then-is_some c =
    goes_on c.args.self.now c.hand_on_all.new.self c.in_ok-delivered.delivered c.next_waiting.result c.in_ok-delivered.ensures c.next_waiting.ensures.value (sym c.is_some.ensures ∙ c.if-is_some.true)
