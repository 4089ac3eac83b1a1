use Rattle.std.proofs.Common.{rules}
use Rattle.dvvset.specs.Clock.{same}
use Rattle.dvvset.proofs.Answered.{answered}
use Rattle.dvvset.proofs.Shapes.{same-Decides}
use Rattle.dvvset.proofs.compare.same.Goals as goal

pub returns-clause-shapes : goal.returns-clause-shapes
returns-clause-shapes c = answered c.are_same.result (same c.args.a.now c.args.b.now) (search rules) (same-Decides c.args.a.now c.args.b.now)
