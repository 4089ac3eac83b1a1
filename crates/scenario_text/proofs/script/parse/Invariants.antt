use Rattle.std.proofs.Common.{◌≡◌, ◌≤◌, ◌+◌, false, length}
use Rattle.scenario_text.specs.Script.{commands_of, commands_of_lines, first_bad, first_bad_from}
use Rattle.scenario_text.proofs.script.parse.Given as goal

-- the lines that are left have all commands, and the first line that breaks a rule
abbrev pub invariant-loop-line : goal.invariant-loop-line
invariant-loop-line l =
    (first_bad_from l.resolvers false (l.number + 1) l.lines ≡ first_bad l.resolvers l.text)
    × (commands_of_lines l.resolvers l.lines ≡ commands_of l.resolvers l.text) × (l.number + length l.lines ≤ length l.text)

abbrev pub decreases-loop-line : goal.decreases-loop-line
decreases-loop-line l = length l.lines
