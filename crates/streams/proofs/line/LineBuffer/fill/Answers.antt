use Rattle.std.proofs.Common.{◌≡◌, ◌<◌, ◌≤◌, rules, true, subst, arith, length}
use Rattle.std.proofs.lemmas.List.{with_items_is}
use Rattle.streams.specs.Line.{Fills}
use Rattle.streams.proofs.Pieces.{fills_pending, fills_read}
use Rattle.streams.proofs.line.LineBuffer.fill.Goals as goal

pub returns-then-self-clause-ok : goal.returns-then-self-clause-ok
returns-then-self-clause-ok g c =
    let b = c.self.inside in
    let r = (g.R.Source.at c.args.reader.now).remaining in
    subst (λ now. Fills now now r r true) c.self.view_is (fills_pending b.piece.items b.start b.end b.left r c.if-self.true c.self.invariant.1)

pub returns-clause-ok : goal.returns-clause-ok
returns-clause-ok g c =
    let b = c.self.inside in
    let piece = c.read_some.new.piece in
    let n = c.in-Ok.n in
    let r = (g.R.Source.at c.args.reader.now).remaining in
    let s = (g.R.Source.at c.read_some.new.self).remaining in
    let len : length piece ≡ b.piece.len = search rules in
    let some : 0 < length piece = omega (arith, len, c.self.invariant.2, b.piece.ok.0) in
    let none : b.end ≤ b.start = omega (arith, c.if-self.false) in
    rw (← c.self.view_is, with_items_is b.piece piece len)
    (fills_read b.piece.items piece b.start b.end b.left n r s none c.if-n-self.false c.in-Ok.ensures.bound.0 c.in-Ok.ensures.bytes.0
    (λ e. c.in-Ok.ensures.bytes.1 e some))
