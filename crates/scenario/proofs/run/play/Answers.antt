use Rattle.std.proofs.Common.{◌≡◌, ap, ◌∙◌}
use Rattle.std.proofs.lemmas.Result.{err_from_is_err_and}
use Rattle.scenario_commands.specs.Obeying.{new_stage}
use Rattle.scenario.proofs.Playing.{ends_play, plays_all, plays_nothing, plays_unopened}
use Rattle.scenario_commands.proofs.Results.{on_err, on_ok}
use Rattle.scenario.proofs.run.play.Goals as goal

pub returns-clause-err : goal.returns-clause-err
returns-clause-err g c =
    let same : c.in_ok-stage.stage ≡ new_stage c.args.script.now.nodes = c.in_ok-stage.ensures ∙ ap new_stage c.nodes.ensures.value in
    on_err c.play_commands.result
    (λ fault ends. ends_play _ c.args.script.now c.in_ok-stage.stage _ _ _ fault same c.in_ok-write_opening.ensures.ok c.in_ok-write_opening.ensures.sound ends) c.play_commands.ensures.err

pub returns-clause-ok : goal.returns-clause-ok
returns-clause-ok g c =
    let same : c.in_ok-stage.stage ≡ new_stage c.args.script.now.nodes = c.in_ok-stage.ensures ∙ ap new_stage c.nodes.ensures.value in
    on_ok c.play_commands.result (plays_all _ c.args.script.now c.in_ok-stage.stage _ _ _ same c.in_ok-write_opening.ensures.ok) c.play_commands.ensures.ok

pub returns-in_err-stage-clause-err : goal.returns-in_err-stage-clause-err
returns-in_err-stage-clause-err g c =
    let p = err_from_is_err_and c.from_residual.result c.from_residual.ensures.1 in
    rw p.1 (plays_unopened _ c.args.script.now _ p.0 p.2)

pub returns-in_err-write_opening-clause-err : goal.returns-in_err-write_opening-clause-err
returns-in_err-write_opening-clause-err g c =
    let p = err_from_is_err_and c.from_residual-in_err-write_opening.result c.from_residual-in_err-write_opening.ensures.1 in
    rw (p.1, p.2) (plays_nothing _ c.args.script.now _ _ _ c.in_err-write_opening.ensures.err)
