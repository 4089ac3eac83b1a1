use Rattle.plumctl_live.proofs.Again.{recorded}
use Rattle.plumctl_live.proofs.recording.recording_of.Goals as goal

pub returns-clause-makes : goal.returns-clause-makes
returns-clause-makes c =
    let replays = rw c.accepted.ensures.value at c.replay_of.ensures.replays in
    let written = rw (c.accepted.ensures.value, c.as_slice.ensures.value, c.in_ok-about.ensures) at c.replay_of.ensures.text in
    recorded (λ text. text.items) c.args.plan c.args.world.now c.replay_of.result c.requires written replays

pub returns-clause-some : goal.returns-clause-some
returns-clause-some c = rw (c.accepted.ensures.value, c.as_slice.ensures.value, c.in_ok-about.ensures) at c.replay_of.ensures.some
