use Rattle.std.proofs.Common.{◌<◌, length}
use Rattle.plumctl_file.specs.Read.{PushesPieces}
use Rattle.plumctl_file.proofs.reading.push_pieces.Given as goal

abbrev pub invariant-loop : goal.invariant-loop
invariant-loop g l =
    PushesPieces (g.R.Source.at l.fn.reader) (g.R.Source.at l.reader) l.fn.reading l.reading
    × (0 < length l.piece)
