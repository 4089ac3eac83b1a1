use Rattle.std.proofs.lemmas.Result.{err_from_is_err_and}
use Rattle.scenario.proofs.Playing.{ends_text, stops_passing}
use Rattle.scenario.proofs.run.run_text.Goals as goal

pub returns-in_err-flush-in-Ok-clause-err : goal.returns-in_err-flush-in-Ok-clause-err
returns-in_err-flush-in-Ok-clause-err g c =
    let p = err_from_is_err_and c.from_residual.result c.from_residual.ensures.1 in
    rw (p.1, p.2) (stops_passing _ c.args.text.now _ _ _ _ c.in-Ok.ensures.ok c.in-Ok.ensures.sound c.flush.ensures.bytes c.in_err-flush-in-Ok.ensures.cause)

pub returns-in_default : goal.returns-in_default
returns-in_default g c = record {
  ok = tt;
  err = ends_text _ c.args.text.now _ _ _ c.in-Err.fault c.end_run.result c.in_default.not-Stream c.in-Err.ensures.err c.end_run.ensures;
}
