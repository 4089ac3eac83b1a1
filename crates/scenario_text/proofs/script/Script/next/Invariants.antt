use Rattle.std.proofs.Common.{◌≡◌, ◌≤◌, length}
use Rattle.scenario_text.specs.Script.{commands_of_lines}
use Rattle.scenario_text.proofs.script.Script.next.Given as goal

abbrev pub invariant-loop-line : goal.invariant-loop-line
invariant-loop-line l =
    (commands_of_lines l.self-inside.resolvers l.self-inside.lines ≡ l.fn.self.commands)
    × (l.self-inside.nodes ≡ l.fn.self.nodes) × (1 ≤ l.self-inside.nodes) × (l.self-inside.nodes ≤ 16)

abbrev pub decreases-loop-line : goal.decreases-loop-line
decreases-loop-line l = length l.self-inside.lines
