use Rattle.std.proofs.Common.{◌≡◌, false, length}
use Rattle.streams.specs.Line.{lines_of}
use Rattle.scenario_text.specs.Hint.{found_behind}
use Rattle.scenario_text.proofs.found.found_behind.Given as goal

abbrev pub invariant-loop-line : goal.invariant-loop-line
invariant-loop-line l = found_behind l.count false (lines_of l.text) ≡ found_behind l.left l.begun l.lines

abbrev pub decreases-loop-line : goal.decreases-loop-line
decreases-loop-line l = length l.lines
