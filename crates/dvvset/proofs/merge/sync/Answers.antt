use Rattle.dvvset.proofs.Writers.{IsObject-sync, merges_writers, count_of-sync}
use Rattle.dvvset.proofs.merge.sync.Goals as goal

pub new-requires : goal.new-requires
new-requires c =
    rw (c.in_ok-merged.ensures, c.entries.ensures.value, c.entries-2.ensures.value) (IsObject-sync c.args.a.now c.args.b.now c.entries.ensures.lawful c.entries-2.ensures.lawful)

pub returns-clause-writers : goal.returns-clause-writers
returns-clause-writers c =
    rw (c.new.ensures, c.in_ok-merged.ensures, c.entries.ensures.value, c.entries-2.ensures.value) (merges_writers c.args.a.now c.args.b.now c.entries.ensures.lawful c.entries-2.ensures.lawful)

pub returns-clause-counts : goal.returns-clause-counts
returns-clause-counts c =
    rw (c.new.ensures, c.in_ok-merged.ensures, c.entries.ensures.value, c.entries-2.ensures.value) (count_of-sync c.args.a.now c.args.b.now c.entries.ensures.lawful c.entries-2.ensures.lawful)
