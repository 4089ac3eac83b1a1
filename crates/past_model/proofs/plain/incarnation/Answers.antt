use Rattle.std.proofs.Common.{arith}
use Rattle.past_model.proofs.EachLife.{few_restarts}
use Rattle.past_model.proofs.plain.incarnation.Goals as goal

pub overflow_cast-result : goal.overflow_cast-result
overflow_cast-result c = let few = few_restarts c.args.before.now c.args.node c.requires in omega (arith, few, c.restarts.ensures)

pub overflow_add-result : goal.overflow_add-result
overflow_add-result c = let few = few_restarts c.args.before.now c.args.node c.requires in omega (arith, few, c.restarts.ensures)

pub returns-clause-few : goal.returns-clause-few
returns-clause-few c = let few = few_restarts c.args.before.now c.args.node c.requires in omega (arith, few, c.restarts.ensures)
