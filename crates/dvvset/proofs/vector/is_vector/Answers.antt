use Rattle.std.proofs.Common.{◌<◌, ◌^◌, ◌∙◌, refl, subst, arith}
use Rattle.meta_types.specs.Actor.{IsWriter}
use Rattle.dvvset.specs.Object.{IsCounter}
use Rattle.dvvset.proofs.Rising.{Tested-next, Tested-end}
use Rattle.dvvset.proofs.Objects.{vector_from_rest}
use Rattle.dvvset.proofs.vector.is_vector.Goals as goal

pub loop-counter-preserved : goal.loop-counter-preserved
loop-counter-preserved c =
    Tested-next (λ e. e.id) IsCounter c.args.counters.now c.loop-counter.counter-index c.loop-counter.low c.number-id.result c.counter-item.result c.loop-counter.invariant c.loop-counter-test.true c.counter-item.is
    (c.number-id.ensures.value ∙ c.id.ensures) c.if-id-low.false
    (record {
      writer = subst IsWriter c.id.ensures c.number-id.ensures.in_range;
      counted = record { least = omega arith; most = subst (λ n. n < 2 ^ 64) c.count.ensures c.count.type_inv };
    })

pub returns : goal.returns
returns c = (
  (λ h. vector_from_rest c.args.counters.now (Tested-end (λ e. e.id) IsCounter c.args.counters.now c.loop-counter.counter-index c.loop-counter.low c.loop-counter.invariant c.loop-counter-test.false)),
  (λ h. refl),
)
