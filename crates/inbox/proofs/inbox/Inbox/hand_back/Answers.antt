use Rattle.std.proofs.Common.{ap}
use Rattle.inbox.specs.declared.rule.Knowledge.{Knowledge}
use Rattle.inbox.proofs.Moves.{merges, learns}
use Rattle.inbox.proofs.inbox.Inbox.hand_back.Goals as goal

pub absorb-requires-clause-rule : goal.absorb-requires-clause-rule
absorb-requires-clause-rule c = merges _ _ _ _ c.pass.invariant.1 c.given.invariant.1

pub learn_as-requires-clause-rule : goal.learn_as-requires-clause-rule
learn_as-requires-clause-rule c =
    learns _ _ (ap (λ (v : Knowledge). v.takes) c.absorb.ensures.rule)
