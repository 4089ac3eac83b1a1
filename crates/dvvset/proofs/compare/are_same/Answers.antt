use Rattle.std.proofs.Common.{sym}
use Rattle.dvvset.proofs.Shapes.{same_lengths}
use Rattle.dvvset.proofs.compare.are_same.Goals as goal

pub returns-then-a-b : goal.returns-then-a-b
returns-then-a-b c = sym (same_lengths c.args.a.now c.args.b.now c.if-a-b.true)
