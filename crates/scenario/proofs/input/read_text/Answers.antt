use Rattle.std.proofs.Common.{◌≡◌, ◌<◌, length, rules, subst, arith}
use Rattle.std.proofs.lemmas.List.{with_items_is}
use Rattle.std.proofs.lemmas.Result.{err_from_is_err_and}
use Rattle.scenario.specs.Run.{AddsPiece}
use Rattle.scenario.proofs.Reading.{reads_all, reads_more, reads_none, reads_stopped}
use Rattle.scenario.proofs.input.read_text.Goals as goal

pub loop-text-init : goal.loop-text-init
loop-text-init g c = (rw c.new-text.ensures.items (reads_none _), search rules)

pub returns-in_err-add_piece-clause-err : goal.returns-in_err-add_piece-clause-err
returns-in_err-add_piece-clause-err g c =
    let p = err_from_is_err_and c.from_residual-in_err-add_piece.result c.from_residual-in_err-add_piece.ensures.1 in
    rw (p.1, p.2)
    (reads_stopped _ _ _ c.loop-text.text.items _ c.loop-text.invariant.0 c.in_err-add_piece.ensures.err)

pub loop-text-preserved : goal.loop-text-preserved
loop-text-preserved g c =
    let piece = subst (λ more. AddsPiece (g.R.Source.at c.loop-text.reader) (g.R.Source.at c.add_piece.new.reader) c.loop-text.text.items c.add_piece.new.text.items more) c.if-branch.true c.in_ok-add_piece.ensures.ok in
    let len : length c.add_piece.new.piece ≡ c.loop-text.piece.len = search rules in
    let some : 0 < length c.add_piece.new.piece = omega (arith, len, c.loop-text.invariant.1, c.loop-text.piece.ok.0) in (
      reads_more _ _ _ c.loop-text.text.items _ c.loop-text.invariant.0 piece c.in_ok-add_piece.ensures.sound,
      rw (with_items_is c.loop-text.piece c.add_piece.new.piece len) some,
    )

pub returns-clause-ok : goal.returns-clause-ok
returns-clause-ok g c =
    let piece = subst (λ more. AddsPiece (g.R.Source.at c.loop-text.reader) (g.R.Source.at c.add_piece.new.reader) c.loop-text.text.items c.add_piece.new.text.items more) c.if-branch.false c.in_ok-add_piece.ensures.ok in
    reads_all _ _ _ c.loop-text.text.items _ c.loop-text.invariant.0 piece c.in_ok-add_piece.ensures.sound
