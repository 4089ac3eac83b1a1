use Rattle.std.proofs.Common.{subst, sym}
use Rattle.dvvset.specs.Object.{IsObject, IsVector}
use Rattle.dvvset.proofs.Objects.{IsVector-join}
use Rattle.dvvset.proofs.vector.join.Goals as goal

pub invariant_of-result : goal.invariant_of-result
invariant_of-result c =
    subst IsVector (sym c.in_ok-counters.ensures) (IsVector-join c.entries.result.now (subst IsObject (sym c.entries.ensures.value) c.entries.ensures.lawful))

pub returns-clause-lawful : goal.returns-clause-lawful
returns-clause-lawful c =
    subst IsVector (sym c.in_ok-counters.ensures) (IsVector-join c.entries.result.now (subst IsObject (sym c.entries.ensures.value) c.entries.ensures.lawful))
