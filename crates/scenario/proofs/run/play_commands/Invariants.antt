use Rattle.std.proofs.Common.{length, map}
use Rattle.streams.specs.Fault.{FailsNoMore}
use Rattle.scenario.specs.Output.{manner_of}
use Rattle.scenario.proofs.Playing.{Playing}
use Rattle.scenario.proofs.run.play_commands.Given as goal

abbrev pub invariant-loop-command : goal.invariant-loop-command
invariant-loop-command g l =
    Playing (manner_of g.P.Runner.opens g.P.Runner.does (map (λ r. (goal.Resolver-dyn g (r.vtable, r.value)).choice r.value) l.resolvers)) l.fn.stage l.fn.script.commands l.stage l.script.commands
    (g.W.Sink.at l.fn.writer) (g.W.Sink.at l.writer)
    × FailsNoMore (g.W.Sink.at l.fn.writer).failed (g.W.Sink.at l.writer).failed
    × g.P.Runner.follows l.runner l.stage

abbrev pub decreases-loop-command : goal.decreases-loop-command
decreases-loop-command g l = length l.script.commands
