use Rattle.std.proofs.Common.{sym, subst}
use Rattle.dvvset.specs.Object.{IsObject}
use Rattle.dvvset.proofs.Objects.{IsVector-join}
use Rattle.dvvset.proofs.compare.has_read.Goals as goal

pub descends_over-requires-clause-a : goal.descends_over-requires-clause-a
descends_over-requires-clause-a c = IsVector-join c.entries.result.now (subst IsObject (sym c.entries.ensures.value) c.entries.ensures.lawful)
