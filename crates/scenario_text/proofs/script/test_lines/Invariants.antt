use Rattle.std.proofs.Common.{◌≡◌, ◌≤◌, ◌+◌, true, length}
use Rattle.scenario_text.specs.Script.{first_bad_from}
use Rattle.scenario_text.proofs.script.test_lines.Given as goal

-- the lines that are left have the first that breaks a rule
abbrev pub invariant-loop-line : goal.invariant-loop-line
invariant-loop-line l =
    (first_bad_from l.resolvers true (l.number + 1) l.rest ≡ first_bad_from l.resolvers true (l.before + 1) l.fn.lines)
    × (l.number + length l.rest ≤ l.before + length l.fn.lines)

abbrev pub decreases-loop-line : goal.decreases-loop-line
decreases-loop-line l = length l.rest
