use Rattle.std.proofs.Common.{sym, subst}
use Rattle.dvvset.specs.Object.{IsObject}
use Rattle.dvvset.proofs.Objects.{IsVector-join}
use Rattle.dvvset.proofs.compare.knows.Goals as goal

pub descends_over-requires-clause-a : goal.descends_over-requires-clause-a
descends_over-requires-clause-a c = IsVector-join c.entries.result.now (subst IsObject (sym c.entries.ensures.value) c.entries.ensures.lawful)

pub descends_over-requires-clause-b : goal.descends_over-requires-clause-b
descends_over-requires-clause-b c = IsVector-join c.entries-2.result.now (subst IsObject (sym c.entries-2.ensures.value) c.entries-2.ensures.lawful)
