use Rattle.std.proofs.Common.{sym, subst}
use Rattle.agreement.specs.Rounds.{KnowAll, after_rounds}
use Rattle.agreement.specs.Schedules.{four_rounds}
use Rattle.agreement.proofs.Cube.{four_agree, four_are}
use Rattle.agreement.proofs.InTurn.{all_agree, all_along, all_known, all_repaired, begun_world}
use Rattle.agreement.proofs.laws.exchanges_in_a_world_are_exchanges_of_knowledge.Goals as goal

pub returns-clause-known : goal.returns-clause-known
returns-clause-known c =
    let kept = c.a_world_tells_a_history.ensures in
    all_known c.args.world.now (begun_world c.args.world.now kept.history kept.lived kept.shows)

pub returns-clause-agree : goal.returns-clause-agree
returns-clause-agree c =
    let kept = c.a_world_tells_a_history.ensures in
    all_agree c.args.world.now (begun_world c.args.world.now kept.history kept.lived kept.shows)

pub returns-clause-sixteen : goal.returns-clause-sixteen
returns-clause-sixteen c = λ new ran many.
    let kept = c.a_world_tells_a_history.ensures in
    all_agree c.args.world.now (begun_world c.args.world.now kept.history kept.lived kept.shows) four_rounds four_are new ran
    (subst (λ count. KnowAll count (after_rounds four_rounds)) (sym many) four_agree)

pub returns-clause-along : goal.returns-clause-along
returns-clause-along c =
    let kept = c.a_world_tells_a_history.ensures in
    all_along c.args.world.now (begun_world c.args.world.now kept.history kept.lived kept.shows)

pub returns-clause-repair : goal.returns-clause-repair
returns-clause-repair c =
    let kept = c.a_world_tells_a_history.ensures in
    all_repaired c.args.world.now (begun_world c.args.world.now kept.history kept.lived kept.shows)
