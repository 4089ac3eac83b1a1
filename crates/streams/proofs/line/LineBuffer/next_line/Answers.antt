use Rattle.std.proofs.Common.{subst}
use Rattle.std.proofs.lemmas.Result.{err_from_is_err_and}
use Rattle.streams.specs.Line.{Fills, Moves}
use Rattle.streams.proofs.Taking.{taking_none, taking_filled, taking_moved, taking_line, taking_rest, taking_stopped, taking_refused}
use Rattle.streams.proofs.line.LineBuffer.next_line.Goals as goal

pub loop-self-init : goal.loop-self-init
loop-self-init g c = (rw c.clear.ensures.items (taking_none c.args.self.now (g.R.Source.at c.args.reader.now).remaining), λ failed. failed)

pub returns-in_err-fill-clause-err : goal.returns-in_err-fill-clause-err
returns-in_err-fill-clause-err g c =
    let p = err_from_is_err_and c.from_residual.result c.from_residual.ensures.1 in
    rw (p.1, p.2)
    (taking_stopped _ _ c.args.self.now c.loop-self.self _ _ _ c.loop-self.line.items _ c.loop-self.invariant.0 c.in_err-fill.ensures.err)

pub returns-in_err-take-clause-err : goal.returns-in_err-take-clause-err
returns-in_err-take-clause-err g c =
    let p = err_from_is_err_and c.from_residual-in_err-take.result c.from_residual-in_err-take.ensures.1 in
    rw p.1
    (taking_refused _ _ c.args.self.now c.fill.new.self _ _ c.loop-self.line.items p.0
    (taking_filled c.args.self.now c.loop-self.self c.fill.new.self _ _ _ c.loop-self.line.items _ c.loop-self.invariant.0 c.in_ok-fill.ensures.ok)
    (λ failed. c.loop-self.invariant.1 (c.in_ok-fill.ensures.sound failed)) p.2)

pub returns-then-branch-2-clause-ok : goal.returns-then-branch-2-clause-ok
returns-then-branch-2-clause-ok g c =
    taking_line c.args.self.now c.fill.new.self c.take.new.self _ _ c.loop-self.line.items c.take.new.line.items
    (taking_filled c.args.self.now c.loop-self.self c.fill.new.self _ _ _ c.loop-self.line.items _ c.loop-self.invariant.0 c.in_ok-fill.ensures.ok)
    (subst (λ ended. Moves c.fill.new.self c.take.new.self c.loop-self.line.items c.take.new.line.items ended) c.if-branch-2.true c.in_ok-take.ensures)

pub loop-self-preserved : goal.loop-self-preserved
loop-self-preserved g c = (
  taking_moved c.args.self.now c.fill.new.self c.take.new.self _ _ c.loop-self.line.items c.take.new.line.items
      (taking_filled c.args.self.now c.loop-self.self c.fill.new.self _ _ _ c.loop-self.line.items _ c.loop-self.invariant.0 c.in_ok-fill.ensures.ok)
      (subst (λ ended. Moves c.fill.new.self c.take.new.self c.loop-self.line.items c.take.new.line.items ended) c.if-branch-2.false c.in_ok-take.ensures),
  λ failed. c.loop-self.invariant.1 (c.in_ok-fill.ensures.sound failed),
)

pub returns-clause-ok : goal.returns-clause-ok
returns-clause-ok g c =
    let fill = subst (λ more. Fills c.loop-self.self c.fill.new.self (g.R.Source.at c.loop-self.reader).remaining (g.R.Source.at c.fill.new.reader).remaining more) c.if-branch.false c.in_ok-fill.ensures.ok in
    taking_rest c.args.self.now c.fill.new.self _ _ c.loop-self.line.items
    (taking_filled c.args.self.now c.loop-self.self c.fill.new.self _ _ _ c.loop-self.line.items _ c.loop-self.invariant.0 fill) fill.answer.0 fill.answer.1

pub returns-then-branch-2-clause-sound : goal.returns-then-branch-2-clause-sound
returns-then-branch-2-clause-sound g c = λ failed. c.loop-self.invariant.1 (c.in_ok-fill.ensures.sound failed)

pub returns-clause-sound : goal.returns-clause-sound
returns-clause-sound g c = λ failed. c.loop-self.invariant.1 (c.in_ok-fill.ensures.sound failed)
