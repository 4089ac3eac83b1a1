use Rattle.std.proofs.Common.{rules}
use Rattle.std.specs.List.{slice_range}
use Rattle.memchr.specs.Find.{IsFirstByte, is_byte}
use Rattle.streams.proofs.Pieces.{found_line}
use Rattle.streams.proofs.line.LineBuffer.holds_line.Goals as goal

pub returns : goal.returns
returns c =
    let b = c.self.inside in
    let pending = slice_range b.piece.items b.start b.end in
    let found : IsFirstByte (is_byte 10) pending c.memchr.result = search rules in
    rw (c.is_some.ensures, ← c.self.view_is) (found_line pending c.memchr.result found)
