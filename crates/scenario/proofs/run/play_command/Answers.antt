use Rattle.std.proofs.Common.{◌≡◌, ◌++◌, List, ℕ, ap, subst, ◌∙◌}
use Rattle.std.proofs.lemmas.Result.{err_from_is_err_and}
use Rattle.std.specs.Io.KnownBytes.{Appends}
use Rattle.streams.specs.Written.{AppendsFront}
use Rattle.scenario.proofs.Playing.{ends_unwritten, ends_writing}
use Rattle.scenario.proofs.run.play_command.Goals as goal

pub returns-in_err-write_whole-clause-err : goal.returns-in_err-write_whole-clause-err
returns-in_err-write_whole-clause-err g c =
    let p = err_from_is_err_and c.from_residual-in_err-write_whole.result c.from_residual-in_err-write_whole.ensures.1 in
    let does = c.in_ok-obey.ensures.obeyed in
    let bytes : c.as_slice.result.now ≡ does.0 =
    c.as_slice.ensures.value ∙ does.2 ∙ ap (λ (xs : List ℕ). xs ++ does.0) c.clear.ensures.items in
    let front = subst (AppendsFront (g.W.Sink.at c.args.writer.now).contents (g.W.Sink.at c.write_whole.new.writer).contents) bytes c.in_err-write_whole.ensures.err in
    rw (p.1, p.2) (ends_writing _ c.args.stage.now _ _ does.0 _ _ _ does.1 front c.in_err-write_whole.ensures.cause)

pub returns-in_err-obey-clause-err : goal.returns-in_err-obey-clause-err
returns-in_err-obey-clause-err g c =
    let p = err_from_is_err_and c.from_residual.result c.from_residual.ensures.1 in
    rw (p.1, p.2) (ends_unwritten _ c.args.stage.now c.obey.new.stage _ c.clear.new.self.items c.obey.new.text.items _ _ c.in_err-obey.ensures.obeyed)

pub returns-clause-ok : goal.returns-clause-ok
returns-clause-ok g c =
    let does = c.in_ok-obey.ensures.obeyed in
    let bytes : c.as_slice.result.now ≡ does.0 =
    c.as_slice.ensures.value ∙ does.2 ∙ ap (λ (xs : List ℕ). xs ++ does.0) c.clear.ensures.items in
    record {
      added = does.0;
      obeys = does.1;
      appended = subst (Appends (g.W.Sink.at c.args.writer.now).contents (g.W.Sink.at c.write_whole.new.writer).contents) bytes c.in_ok-write_whole.ensures.ok;
    }
