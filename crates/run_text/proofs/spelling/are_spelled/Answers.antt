use Rattle.std.proofs.Common.{List, All, refl, subst}
use Rattle.std.proofs.lemmas.List.{take_all}
use Rattle.std.proofs.lemmas.List.Elements.{All-more}
use Rattle.world_core.specs.declared.answer.Accepted.{Accepted}
use Rattle.run_text.specs.Replay.{IsSpelled, command_of_event}
use Rattle.run_text.proofs.spelling.are_spelled.Goals as goal

abbrev Is : Accepted → Type 0
Is one = IsSpelled (command_of_event one.event)

pub loop-one-preserved : goal.loop-one-preserved
loop-one-preserved c =
    let one = c.one-item.result in
    let spelled : Is one = c.is_spelled.ensures.0 c.if-not-is_spelled.false in
    All-more Is c.args.accepted.now c.loop-one.one-index one c.loop-one-test.true c.loop-one.invariant (subst Is c.one-item.is spelled)

pub returns : goal.returns
returns c =
    let all = subst (λ (them : List Accepted). All Is them) (take_all c.loop-one.one-index c.args.accepted.now c.loop-one-test.false) c.loop-one.invariant in
    (λ yes. all, λ is. refl)
