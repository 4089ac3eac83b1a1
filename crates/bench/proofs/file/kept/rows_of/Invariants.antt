use Rattle.std.proofs.Common.{◌≡◌, map, take}
use Rattle.bench.proofs.file.kept.rows_of.Given as goal

abbrev pub invariant-loop-object : goal.invariant-loop-object
invariant-loop-object l = l.rows.items ≡ map (λ o. (l.key, o)) (take l.object-index l.objects)
