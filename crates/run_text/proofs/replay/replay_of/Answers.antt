use Rattle.std.proofs.Common.{List, ℕ, map, refl, subst, sym}
use Rattle.run_text.specs.Replay.{HasReplay, Replays}
use Rattle.run_text.proofs.Replaying.{replays}
use Rattle.run_text.proofs.Spellings.{all_accepted}
use Rattle.run_text.proofs.replay.replay_of.Goals as goal

pub text_of-requires : goal.text_of-requires
text_of-requires c =
    let has : HasReplay c.args.about.now c.args.nodes (map (λ a. a.event) c.args.accepted.now) = c.has_replay.ensures.0 c.if-not-has_replay.false in
    all_accepted c.args.accepted.now has.each

pub returns-clause-some : goal.returns-clause-some
returns-clause-some c = (λ some. c.has_replay.ensures.0 c.if-not-has_replay.false, λ has. refl)

pub returns-clause-replays : goal.returns-clause-replays
returns-clause-replays c = λ resolvers.
    let events = map (λ a. a.event) c.args.accepted.now in
    let has : HasReplay c.args.about.now c.args.nodes events = c.has_replay.ensures.0 c.if-not-has_replay.false in
    subst (λ (text : List ℕ). Replays resolvers c.args.nodes events text) (sym c.in_ok-text_of.ensures)
    (replays resolvers c.args.about.now c.args.nodes events has)
