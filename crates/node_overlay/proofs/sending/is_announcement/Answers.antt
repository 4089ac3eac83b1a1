use Rattle.node_overlay.proofs.Respelling.{same_vector, same_announcement}
use Rattle.node_overlay.proofs.sending.is_announcement.Goals as goal

pub returns-then-is_same_keyed : goal.returns-then-is_same_keyed
returns-then-is_same_keyed c = λ holds.
    same_announcement c.args.round c.in-IHave.r c.args.key.now c.in-IHave.k c.args.vector.now c.in-IHave.v c.args.message.now
    c.in-IHave.is (c.is_same_keyed.ensures.key c.if-is_same_keyed.true) (same_vector c.eq.result c.args.vector.now c.in-IHave.v c.eq.ensures holds)
    (c.is_same_keyed.ensures.round c.if-is_same_keyed.true)
