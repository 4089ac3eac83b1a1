use Rattle.node_overlay.proofs.Respelling.{same_object, same_gossip}
use Rattle.node_overlay.proofs.sending.is_gossip.Goals as goal

pub returns-then-is_same_keyed : goal.returns-then-is_same_keyed
returns-then-is_same_keyed c = λ holds.
    same_gossip c.args.round c.in-Gossip.r c.args.key.now c.in-Gossip.k c.args.object.now c.in-Gossip.o c.args.message.now
    c.in-Gossip.is (c.is_same_keyed.ensures.key c.if-is_same_keyed.true) (same_object c.eq.result c.args.object.now c.in-Gossip.o c.eq.ensures holds)
    (c.is_same_keyed.ensures.round c.if-is_same_keyed.true)
