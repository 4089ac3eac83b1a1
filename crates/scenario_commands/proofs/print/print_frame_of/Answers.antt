use Rattle.std.proofs.Common.{sym, ◌∙◌}
use Rattle.scenario_commands.proofs.Results.{on_ok}
use Rattle.scenario_commands.proofs.print.print_frame_of.Goals as goal

pub returns : goal.returns
returns c =
    on_ok c.print_frame_line.result
    (λ told. (told.0, (record { bytes = c.in-Some.bytes; there = sym c.in_ok-bytes.ensures.value ∙ c.in-Some.is; spelled = told.1.0 }, told.1.1))) c.print_frame_line.ensures
