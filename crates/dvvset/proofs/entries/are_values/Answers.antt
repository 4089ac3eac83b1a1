use Rattle.std.proofs.Common.{subst, sym}
use Rattle.std.proofs.lemmas.List.{take_all}
use Rattle.std.proofs.lemmas.List.Elements.{All-more, All-same}
use Rattle.meta_types.specs.Value.{IsValue}
use Rattle.dvvset.proofs.entries.are_values.Goals as goal

pub loop-value-preserved : goal.loop-value-preserved
loop-value-preserved c =
    All-more IsValue c.args.values.now c.loop-value.value-index c.value-item.result c.loop-value-test.true c.loop-value.invariant
    (subst IsValue c.value-item.is c.stamp.ensures.in_range)

pub returns-clause-holds : goal.returns-clause-holds
returns-clause-holds c =
    All-same IsValue c.args.values.now _ (sym (take_all c.loop-value.value-index c.args.values.now c.loop-value-test.false)) c.loop-value.invariant
