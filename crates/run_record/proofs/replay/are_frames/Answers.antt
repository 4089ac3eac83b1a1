use Rattle.std.proofs.Common.{sym, ◌∙◌}
use Rattle.node_events.specs.Equal.{frames_eq-Decides}
use Rattle.run_record.proofs.replay.are_frames.Goals as goal

pub returns : goal.returns
returns c =
    let decides = frames_eq-Decides c.args.sent.now c.args.frames.now in
    (λ same. decides.0 (sym c.eq.ensures ∙ same), λ same. c.eq.ensures ∙ decides.1 same)
