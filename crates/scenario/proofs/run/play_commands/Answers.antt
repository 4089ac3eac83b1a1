use Rattle.std.proofs.lemmas.Result.{err_from_is_err_and}
use Rattle.scenario.proofs.Playing.{playing_ends, playing_more, playing_none}
use Rattle.scenario.proofs.run.play_commands.Goals as goal

pub loop-command-preserved : goal.loop-command-preserved
loop-command-preserved g c = (
  playing_more _ _ _ _ _ _ _ _ _ _ _ c.loop-command.invariant.0 c.in-Some.ensures.commands c.in_ok-play_command.ensures.ok,
  λ kind failed. c.loop-command.invariant.1 kind (c.in_ok-play_command.ensures.sound kind failed),
  c.in_ok-play_command.ensures.follows,
)

pub returns-in_err-play_command-clause-err : goal.returns-in_err-play_command-clause-err
returns-in_err-play_command-clause-err g c =
    let p = err_from_is_err_and c.from_residual.result c.from_residual.ensures.1 in
    rw (p.1, p.2)
    (playing_ends _ _ _ _ _ _ _ _ _ _ _ c.loop-command.invariant.0 c.in-Some.ensures.commands c.loop-command.invariant.1 c.in_err-play_command.ensures.err)

pub loop-command-init : goal.loop-command-init
loop-command-init g c = (playing_none _ _ _ _, λ kind failed. failed, c.requires)

pub returns-clause-sound : goal.returns-clause-sound
returns-clause-sound g c = c.loop-command.invariant.1
