use Rattle.agreement.proofs.InTurn.{begun_world, idle_stays_so, one_agrees, one_union}
use Rattle.agreement.proofs.laws.an_exchange_in_a_world_gives_both_the_union.Goals as goal

pub returns-clause-union : goal.returns-clause-union
returns-clause-union c =
    let kept = c.a_world_tells_a_history.ensures in
    one_union c.args.world.now (begun_world c.args.world.now kept.history kept.lived kept.shows)

pub returns-clause-agree : goal.returns-clause-agree
returns-clause-agree c =
    let kept = c.a_world_tells_a_history.ensures in
    one_agrees c.args.world.now (begun_world c.args.world.now kept.history kept.lived kept.shows)

pub returns-clause-others : goal.returns-clause-others
returns-clause-others c =
    let kept = c.a_world_tells_a_history.ensures in
    idle_stays_so c.args.world.now (begun_world c.args.world.now kept.history kept.lived kept.shows)
