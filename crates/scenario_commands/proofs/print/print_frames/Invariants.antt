use Rattle.scenario_commands.proofs.Sending.{Printing}
use Rattle.scenario_commands.proofs.print.print_frames.Given as goal

abbrev pub invariant-loop-offset : goal.invariant-loop-offset
invariant-loop-offset l = Printing l.world l.sent.first l.offset l.fn.out.items l.out.items
