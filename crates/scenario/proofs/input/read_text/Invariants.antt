use Rattle.std.proofs.Common.{◌-◌, ◌<◌, length}
use Rattle.streams.specs.Line.{input_limit}
use Rattle.scenario.proofs.Reading.{ReadsSoFar}
use Rattle.scenario.proofs.input.read_text.Given as goal

abbrev pub invariant-loop-text : goal.invariant-loop-text
invariant-loop-text g l =
    ReadsSoFar (g.R.Source.at l.fn.reader) (g.R.Source.at l.reader) l.text.items
    × (0 < length l.piece.items)

abbrev pub decreases-loop-text : goal.decreases-loop-text
decreases-loop-text g l = input_limit - length l.text.items
