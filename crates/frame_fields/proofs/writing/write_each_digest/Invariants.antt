use Rattle.std.proofs.Common.{◌≡◌, ◌++◌, take}
use Rattle.std.specs.List.{flat_map}
use Rattle.frame_fields.specs.Field.{digest}
use Rattle.frame_fields.proofs.writing.write_each_digest.Given as goal

abbrev pub invariant-loop-digest : goal.invariant-loop-digest
invariant-loop-digest l = l.out.items ≡ l.fn.out.items ++ flat_map digest.spell (take l.digest-index l.digests)
