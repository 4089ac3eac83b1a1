use Rattle.std.proofs.Common.{rules}
use Rattle.dvvset.specs.Equal.{entry_eq, entry_eq-Decides}
use Rattle.dvvset.proofs.Answered.{answered}
use Rattle.dvvset.proofs.entry.EntryPartialEq.eq.Goals as goal

pub returns-then-self-other-clause-same : goal.returns-then-self-other-clause-same
returns-then-self-other-clause-same c =
    answered c.eq-then-self-other.result (entry_eq c.args.self.now c.args.other.now) (search rules) (entry_eq-Decides c.args.self.now c.args.other.now)
