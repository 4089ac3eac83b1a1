use Rattle.node_overlay.proofs.Respelling.{same_key}
use Rattle.node_overlay.proofs.sending.is_same_keyed.Goals as goal

pub returns-then-round-other_round-clause-key : goal.returns-then-round-other_round-clause-key
returns-then-round-other_round-clause-key c =
    same_key c.eq.result c.args.key.now c.args.other_key.now c.eq.ensures
