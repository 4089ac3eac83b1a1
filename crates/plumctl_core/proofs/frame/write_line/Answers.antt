use Rattle.std.proofs.Common.{◌≡◌, ◌∷◌, ◌++◌, [], rules, subst}
use Rattle.std.proofs.lemmas.Result.{err_from_is_err_and}
use Rattle.streams.specs.Written.{AppendsFront}
use Rattle.plumctl_core.proofs.Going.{stopped_before, cause_of_writer}
use Rattle.plumctl_core.proofs.frame.write_line.Goals as goal

pub returns-in_err-is_frame-clause-err : goal.returns-in_err-is_frame-clause-err
returns-in_err-is_frame-clause-err g c =
    let p = err_from_is_err_and c.from_residual.result c.from_residual.ensures.1 in
    rw p.1 (stopped_before _ c.args.line.now _ p.0 p.2)

pub returns-in_err-push-clause-err : goal.returns-in_err-push-clause-err
returns-in_err-push-clause-err g c =
    let p = err_from_is_err_and c.from_residual-in_err-push.result c.from_residual-in_err-push.ensures.1 in
    rw p.1 (stopped_before _ c.args.line.now _ p.0 p.2)

pub returns-in_err-write_whole-clause-err : goal.returns-in_err-write_whole-clause-err
returns-in_err-write_whole-clause-err g c =
    let p = err_from_is_err_and c.from_residual-in_err-write_whole.result c.from_residual-in_err-write_whole.ensures.1 in
    let text = c.print_line.new.text.items in
    let bytes : c.as_slice.result.now ≡ text ++ 10 ∷ [] = search rules in
    rw (p.1, p.2) (record {
      text = text;
      text_is = c.in_ok-is_frame.ensures.text;
      appended = subst (AppendsFront (g.W.Sink.at c.args.writer.now).contents (g.W.Sink.at c.write_whole.new.writer).contents) bytes c.in_err-write_whole.ensures.err;
      cause = cause_of_writer (g.W.Sink.at c.args.writer.now).failed (g.W.Sink.at c.write_whole.new.writer).failed c.in_err-write_whole.field-0.0 c.in_err-write_whole.ensures.cause;
    })
