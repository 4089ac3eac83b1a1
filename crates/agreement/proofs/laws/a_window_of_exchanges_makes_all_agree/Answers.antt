use Rattle.agreement.specs.Rounds.{exchanges_of}
use Rattle.agreement.proofs.InTurn.{all_agree, begun_world}
use Rattle.agreement.proofs.Windows.{delivered_know_all}
use Rattle.agreement.proofs.laws.a_window_of_exchanges_makes_all_agree.Goals as goal

pub returns-clause-know : goal.returns-clause-know
returns-clause-know c = delivered_know_all

pub returns-clause-agree : goal.returns-clause-agree
returns-clause-agree c = λ rounds are all new ran.
    let kept = c.a_world_tells_a_history.ensures in
    all_agree c.args.world.now (begun_world c.args.world.now kept.history kept.lived kept.shows) rounds are new ran
    (delivered_know_all _ (exchanges_of rounds) all)
