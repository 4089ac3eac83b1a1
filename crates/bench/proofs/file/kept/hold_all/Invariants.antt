use Rattle.std.proofs.Common.{◌≡◌, fold, take}
use Rattle.meta_store.specs.Table.{with_object}
use Rattle.bench.proofs.file.kept.hold_all.Given as goal

abbrev pub invariant-loop-object : goal.invariant-loop-object
invariant-loop-object l = l.table ≡ fold (λ t o. with_object l.key o t) l.initial.table (take l.object-index l.objects)
