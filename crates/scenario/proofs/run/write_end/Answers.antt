use Rattle.std.proofs.Common.{◌≡◌, rules, subst}
use Rattle.std.specs.Io.KnownBytes.{Appends}
use Rattle.scenario.specs.Ending.{end_line}
use Rattle.scenario.proofs.Playing.{line_passing}
use Rattle.scenario_commands.proofs.Results.{on_err}
use Rattle.scenario.proofs.run.write_end.Goals as goal

pub returns-clause-err : goal.returns-clause-err
returns-clause-err g c =
    let at = g.W.Sink.at in
    let bytes : c.as_slice.result.now ≡ end_line c.args.fault = search rules in
    let writes = subst (Appends (at c.args.writer.now).contents (at c.write_whole.new.writer).contents) bytes c.in_ok-write_whole.ensures.ok in
    on_err c.flush.result
    (λ fault. line_passing (end_line c.args.fault) (at c.args.writer.now) (at c.write_whole.new.writer) (at c.flush.new.writer) fault writes c.in_ok-write_whole.ensures.sound c.flush.ensures.bytes)
    c.flush.ensures.cause
