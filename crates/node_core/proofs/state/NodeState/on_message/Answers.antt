use Rattle.std.proofs.Common.{subst, sym}
use Rattle.meta_frame.specs.declared.message.Message.{Message}
use Rattle.node_core.specs.Handling.{AttemptsMessage}
use Rattle.node_core.proofs.state.NodeState.on_message.Goals as goal

pub returns-in-Gossip : goal.returns-in-Gossip
returns-in-Gossip c =
    let call = c.on_gossip in
    subst (λ (m : Message). AttemptsMessage c.args.self.now c.args.from c.args.word m call.result call.new.self) (sym c.in-Gossip.is) call.ensures

pub returns-in-IHave : goal.returns-in-IHave
returns-in-IHave c =
    let call = c.on_ihave in
    subst (λ (m : Message). AttemptsMessage c.args.self.now c.args.from c.args.word m call.result call.new.self) (sym c.in-IHave.is) call.ensures

pub returns-in-Graft : goal.returns-in-Graft
returns-in-Graft c =
    let call = c.on_graft in
    subst (λ (m : Message). AttemptsMessage c.args.self.now c.args.from c.args.word m call.result call.new.self) (sym c.in-Graft.is) call.ensures

pub returns-in-XObject : goal.returns-in-XObject
returns-in-XObject c =
    let call = c.on_object in
    subst (λ (m : Message). AttemptsMessage c.args.self.now c.args.from c.args.word m call.result call.new.self) (sym c.in-XObject.is) call.ensures
