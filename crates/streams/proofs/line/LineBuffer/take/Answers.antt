use Rattle.std.proofs.Common.{rules, Some, None}
use Rattle.std.specs.List.{slice_range}
use Rattle.memchr.specs.Find.{IsFirstByte, is_byte}
use Rattle.streams.proofs.Pieces.{moves_line, moves_all}
use Rattle.streams.proofs.line.LineBuffer.take.Goals as goal

pub returns-in_ok-extend_from_slice-in-Some : goal.returns-in_ok-extend_from_slice-in-Some
returns-in_ok-extend_from_slice-in-Some c =
    let b = c.self.inside in
    let pending = slice_range b.piece.items b.start b.end in
    let found : IsFirstByte (is_byte 10) pending (Some c.in-Some.n) = search rules in
    rw (← c.self.view_is)
    (moves_line b.piece.items b.start b.end b.left c.in-Some.n _ _ c.self.invariant.0 c.self.invariant.1 found (search rules))

pub returns-in_ok-extend_from_slice-in-None : goal.returns-in_ok-extend_from_slice-in-None
returns-in_ok-extend_from_slice-in-None c =
    let b = c.self.inside in
    let pending = slice_range b.piece.items b.start b.end in
    let none : IsFirstByte (is_byte 10) pending None = search rules in
    rw (← c.self.view_is) (moves_all b.piece.items b.start b.end b.left _ _ none (search rules))
