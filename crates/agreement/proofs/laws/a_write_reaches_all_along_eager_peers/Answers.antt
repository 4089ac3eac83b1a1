use Rattle.agreement.proofs.Broadcasting.{all_written, hold_the_same, how_many, in_turn, know_what_root_knew, know_what_was_passed_on, others_stay, over_any, sends, tree_stays}
use Rattle.agreement.proofs.InTurn.{begun_world}
use Rattle.agreement.proofs.Writing.{peers_stay}
use Rattle.agreement.proofs.laws.a_write_reaches_all_along_eager_peers.Goals as goal

pub returns-clause-written : goal.returns-clause-written
returns-clause-written c = λ b.
    let kept = c.a_world_tells_a_history.ensures in
    all_written c.args.world.now (begun_world c.args.world.now kept.history kept.lived kept.shows) c.each_peer_stands_once.ensures b

pub returns-clause-known : goal.returns-clause-known
returns-clause-known c = λ b.
    let kept = c.a_world_tells_a_history.ensures in
    know_what_was_passed_on c.args.world.now (begun_world c.args.world.now kept.history kept.lived kept.shows) c.each_peer_stands_once.ensures b

pub returns-clause-reaches : goal.returns-clause-reaches
returns-clause-reaches c = λ b.
    let kept = c.a_world_tells_a_history.ensures in
    know_what_root_knew c.args.world.now (begun_world c.args.world.now kept.history kept.lived kept.shows) c.each_peer_stands_once.ensures b

pub returns-clause-agree : goal.returns-clause-agree
returns-clause-agree c = λ b.
    let kept = c.a_world_tells_a_history.ensures in
    hold_the_same c.args.world.now (begun_world c.args.world.now kept.history kept.lived kept.shows) c.each_peer_stands_once.ensures b

pub returns-clause-number : goal.returns-clause-number
returns-clause-number c = λ b.
    let kept = c.a_world_tells_a_history.ensures in
    how_many c.args.world.now (begun_world c.args.world.now kept.history kept.lived kept.shows) c.each_peer_stands_once.ensures b

pub returns-clause-gossip : goal.returns-clause-gossip
returns-clause-gossip c = λ b.
    let kept = c.a_world_tells_a_history.ensures in
    sends c.args.world.now (begun_world c.args.world.now kept.history kept.lived kept.shows) c.each_peer_stands_once.ensures b

pub returns-clause-leaves : goal.returns-clause-leaves
returns-clause-leaves c = λ before write n key value is wrote. peers_stay before c.args.world.now n key value write.event write.answer is wrote.comes

pub returns-clause-stays : goal.returns-clause-stays
returns-clause-stays c = λ b.
    let kept = c.a_world_tells_a_history.ensures in
    tree_stays c.args.world.now (begun_world c.args.world.now kept.history kept.lived kept.shows) c.each_peer_stands_once.ensures b

pub returns-clause-any_writer : goal.returns-clause-any_writer
returns-clause-any_writer c = over_any

pub returns-clause-others : goal.returns-clause-others
returns-clause-others c = λ b.
    let kept = c.a_world_tells_a_history.ensures in
    others_stay c.args.world.now (begun_world c.args.world.now kept.history kept.lived kept.shows) c.each_peer_stands_once.ensures b

pub returns-clause-in_turn : goal.returns-clause-in_turn
returns-clause-in_turn c = in_turn
