use Rattle.std.proofs.Common.{subst}
use Rattle.std.specs.Option.{option_copied}
use Rattle.std.proofs.lemmas.Result.{err_from_is_err_and}
use Rattle.streams.specs.Line.{TakesLine}
use Rattle.plumctl_core.specs.Run.{WritesLine, StopsLine, WritesLast, StopsLast}
use Rattle.plumctl_core.proofs.Going.{going_none, going_line, going_flushed, going_less, stops_reading, stops_line, stops_flushing, stops_none, stops_over, stops_passing, prints_over}
use Rattle.plumctl_core.proofs.frame.frame_lines.Goals as goal

pub returns-in_err-lines-clause-err : goal.returns-in_err-lines-clause-err
returns-in_err-lines-clause-err g c =
    let p = err_from_is_err_and c.from_residual.result c.from_residual.ensures.1 in
    rw p.1 (stops_none _ _ _ p.0 p.2)

pub loop-text-init : goal.loop-text-init
loop-text-init g c = (rw c.in_ok-lines.ensures (going_none _ _ _), λ failed. failed, λ kind failed. failed)

pub returns-in_err-next_line-clause-err : goal.returns-in_err-next_line-clause-err
returns-in_err-next_line-clause-err g c =
    let p = err_from_is_err_and c.from_residual-in_err-next_line.result c.from_residual-in_err-next_line.ensures.1 in
    rw (p.1, p.2)
    (stops_reading _ _ _ _ _ _ c.loop-text.lines c.loop-text.all _ c.loop-text.invariant.0 c.loop-text.invariant.1 c.loop-text.invariant.2 c.in_err-next_line.ensures.err)

pub returns-in_err-all-clause-err : goal.returns-in_err-all-clause-err
returns-in_err-all-clause-err g c =
    let r = g.R.Source.at in
    let w = g.W.Sink.at in
    let line = c.next_line.new.line.items in
    let p = err_from_is_err_and c.from_residual-in_err-all.result c.from_residual-in_err-all.ensures.1 in
    let takes = subst (λ ended. TakesLine c.loop-text.lines c.next_line.new.self (r c.loop-text.reader).remaining (r c.next_line.new.reader).remaining line ended) c.if-branch.true c.in_ok-next_line.ensures.ok in
    let stop =
    subst (λ l. StopsLine (option_copied c.args.keys) l (w c.loop-text.writer) (w c.write_line.new.writer) c.in_err-all.field-0.0)
    c.as_slice.ensures.value c.in_err-all.ensures.err in
    rw (p.1, p.2)
    (stops_line _ _ _ _ _ _ _ c.loop-text.lines c.next_line.new.self c.loop-text.all line _ c.loop-text.invariant.0
    (λ failed. c.loop-text.invariant.1 (c.in_ok-next_line.ensures.sound failed)) c.loop-text.invariant.2 takes stop)

pub loop-text-preserved-in_ok-flush : goal.loop-text-preserved-in_ok-flush
loop-text-preserved-in_ok-flush g c =
    let r = g.R.Source.at in
    let w = g.W.Sink.at in
    let line = c.next_line.new.line.items in
    let takes = subst (λ ended. TakesLine c.loop-text.lines c.next_line.new.self (r c.loop-text.reader).remaining (r c.next_line.new.reader).remaining line ended) c.if-branch.true c.in_ok-next_line.ensures.ok in
    let writes = subst (λ l. WritesLine (option_copied c.args.keys) l (w c.loop-text.writer) (w c.write_line.new.writer) c.in_ok-all.field-0) c.as_slice.ensures.value c.in_ok-all.ensures.ok in (
      going_flushed _ _ _ _ _ _ c.next_line.new.self _
          (going_line _ _ _ _ _ _ _ c.loop-text.lines c.next_line.new.self c.loop-text.all c.in_ok-all.field-0 line c.loop-text.invariant.0 takes writes) c.flush.ensures.bytes,
      λ failed. c.loop-text.invariant.1 (c.in_ok-next_line.ensures.sound failed),
      λ kind failed. c.loop-text.invariant.2 kind (c.in_ok-all.ensures.sound kind (c.in_ok-flush.ensures.sound kind failed)),
    )

pub returns-in_err-flush-clause-err : goal.returns-in_err-flush-clause-err
returns-in_err-flush-clause-err g c =
    let r = g.R.Source.at in
    let w = g.W.Sink.at in
    let line = c.next_line.new.line.items in
    let p = err_from_is_err_and c.from_residual-in_err-flush.result c.from_residual-in_err-flush.ensures.1 in
    let takes = subst (λ ended. TakesLine c.loop-text.lines c.next_line.new.self (r c.loop-text.reader).remaining (r c.next_line.new.reader).remaining line ended) c.if-branch.true c.in_ok-next_line.ensures.ok in
    let writes = subst (λ l. WritesLine (option_copied c.args.keys) l (w c.loop-text.writer) (w c.write_line.new.writer) c.in_ok-all.field-0) c.as_slice.ensures.value c.in_ok-all.ensures.ok in
    rw (p.1, p.2)
    (stops_flushing _ _ _ _ _ _ c.next_line.new.self _ _
    (going_line _ _ _ _ _ _ _ c.loop-text.lines c.next_line.new.self c.loop-text.all c.in_ok-all.field-0 line c.loop-text.invariant.0 takes writes)
    (λ failed. c.loop-text.invariant.1 (c.in_ok-next_line.ensures.sound failed)) (λ kind failed. c.loop-text.invariant.2 kind (c.in_ok-all.ensures.sound kind failed)) c.flush.ensures.bytes c.in_err-flush.ensures.cause)

pub loop-text-smaller : goal.loop-text-smaller
loop-text-smaller g c =
    let r = g.R.Source.at in
    let line = c.next_line.new.line.items in
    let takes = subst (λ ended. TakesLine c.loop-text.lines c.next_line.new.self (r c.loop-text.reader).remaining (r c.next_line.new.reader).remaining line ended) c.if-branch.true c.in_ok-next_line.ensures.ok in
    going_less c.loop-text.lines c.next_line.new.self _ _ line takes

pub loop-text-smaller-in_ok-flush : goal.loop-text-smaller-in_ok-flush
loop-text-smaller-in_ok-flush g c =
    let r = g.R.Source.at in
    let line = c.next_line.new.line.items in
    let takes = subst (λ ended. TakesLine c.loop-text.lines c.next_line.new.self (r c.loop-text.reader).remaining (r c.next_line.new.reader).remaining line ended) c.if-branch.true c.in_ok-next_line.ensures.ok in
    going_less c.loop-text.lines c.next_line.new.self _ _ line takes

pub loop-text-preserved : goal.loop-text-preserved
loop-text-preserved g c =
    let r = g.R.Source.at in
    let w = g.W.Sink.at in
    let line = c.next_line.new.line.items in
    let takes = subst (λ ended. TakesLine c.loop-text.lines c.next_line.new.self (r c.loop-text.reader).remaining (r c.next_line.new.reader).remaining line ended) c.if-branch.true c.in_ok-next_line.ensures.ok in
    let writes = subst (λ l. WritesLine (option_copied c.args.keys) l (w c.loop-text.writer) (w c.write_line.new.writer) c.in_ok-all.field-0) c.as_slice.ensures.value c.in_ok-all.ensures.ok in (
      going_line _ _ _ _ _ _ _ c.loop-text.lines c.next_line.new.self c.loop-text.all c.in_ok-all.field-0 line c.loop-text.invariant.0 takes writes,
      λ failed. c.loop-text.invariant.1 (c.in_ok-next_line.ensures.sound failed),
      λ kind failed. c.loop-text.invariant.2 kind (c.in_ok-all.ensures.sound kind failed),
    )

pub returns-in_err-all-2-clause-err : goal.returns-in_err-all-2-clause-err
returns-in_err-all-2-clause-err g c =
    let r = g.R.Source.at in
    let w = g.W.Sink.at in
    let line = c.next_line.new.line.items in
    let p = err_from_is_err_and c.from_residual-in_err-all-2.result c.from_residual-in_err-all-2.ensures.1 in
    let takes = subst (λ ended. TakesLine c.loop-text.lines c.next_line.new.self (r c.loop-text.reader).remaining (r c.next_line.new.reader).remaining line ended) c.if-branch.false c.in_ok-next_line.ensures.ok in
    let stop =
    subst (λ l. StopsLast (option_copied c.args.keys) l (w c.loop-text.writer) (w c.write_last_line.new.writer) c.in_err-all-2.field-0.0)
    c.as_slice-2.ensures.value c.in_err-all-2.ensures.err in
    rw (p.1, p.2)
    (stops_over _ _ _ _ _ _ _ c.loop-text.lines c.next_line.new.self c.loop-text.all line _ c.loop-text.invariant.0
    (λ failed. c.loop-text.invariant.1 (c.in_ok-next_line.ensures.sound failed)) c.loop-text.invariant.2 takes stop)

pub returns-in_err-flush-2-clause-err : goal.returns-in_err-flush-2-clause-err
returns-in_err-flush-2-clause-err g c =
    let r = g.R.Source.at in
    let w = g.W.Sink.at in
    let line = c.next_line.new.line.items in
    let p = err_from_is_err_and c.from_residual-in_err-flush-2.result c.from_residual-in_err-flush-2.ensures.1 in
    let takes = subst (λ ended. TakesLine c.loop-text.lines c.next_line.new.self (r c.loop-text.reader).remaining (r c.next_line.new.reader).remaining line ended) c.if-branch.false c.in_ok-next_line.ensures.ok in
    let last = subst (λ l. WritesLast (option_copied c.args.keys) l (w c.loop-text.writer) (w c.write_last_line.new.writer) c.in_ok-all-2.field-0) c.as_slice-2.ensures.value c.in_ok-all-2.ensures.ok in
    rw (p.1, p.2)
    (stops_passing _ _ _ _ _ (w c.loop-text.writer) (w c.write_last_line.new.writer) _ c.loop-text.lines c.next_line.new.self c.loop-text.all c.in_ok-all-2.field-0 line _
    c.loop-text.invariant.0 (λ failed. c.loop-text.invariant.1 (c.in_ok-next_line.ensures.sound failed)) c.loop-text.invariant.2 takes last c.in_ok-all-2.ensures.sound c.flush-2.ensures.bytes c.in_err-flush-2.ensures.cause)

pub returns-clause-ok : goal.returns-clause-ok
returns-clause-ok g c =
    let r = g.R.Source.at in
    let w = g.W.Sink.at in
    let line = c.next_line.new.line.items in
    let takes = subst (λ ended. TakesLine c.loop-text.lines c.next_line.new.self (r c.loop-text.reader).remaining (r c.next_line.new.reader).remaining line ended) c.if-branch.false c.in_ok-next_line.ensures.ok in
    let last = subst (λ l. WritesLast (option_copied c.args.keys) l (w c.loop-text.writer) (w c.write_last_line.new.writer) c.in_ok-all-2.field-0) c.as_slice-2.ensures.value c.in_ok-all-2.ensures.ok in
    prints_over _ _ _ _ _ _ _ _ c.loop-text.lines c.next_line.new.self c.loop-text.all c.in_ok-all-2.field-0 line c.of.result c.loop-text.invariant.0 takes last c.flush-2.ensures.bytes c.of.ensures c.in_ok-flush-2.ensures.done

pub returns-clause-sound : goal.returns-clause-sound
returns-clause-sound g c = (
  λ failed. c.loop-text.invariant.1 (c.in_ok-next_line.ensures.sound failed),
  λ kind failed. c.loop-text.invariant.2 kind (c.in_ok-all-2.ensures.sound kind (c.in_ok-flush-2.ensures.sound kind failed)),
)
