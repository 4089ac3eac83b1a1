use Rattle.std.proofs.Common.{arith, rules, subst}
use Rattle.std.proofs.lemmas.Grind.{common_steps}
use Rattle.std.proofs.lemmas.List.Elements.{All-more}
use Rattle.meta_store.specs.Table.{IsHeld}
use Rattle.node_readers.specs.Published.{Published}
use Rattle.node_call.proofs.storing_all.objects_of.Goals as goal

pub loop-change-preserved : goal.loop-change-preserved
loop-change-preserved c = (
  first_of (search rules, grind (arith, common_steps)),
  All-more (λ (x : Published). IsHeld x.object) c.args.changes.now c.loop-change.change-index c.change-item.result c.loop-change-test.true c.loop-change.invariant.1
      (subst (λ (x : Published). IsHeld x.object) c.change-item.is c.object.ensures.held),
)
