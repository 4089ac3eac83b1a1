use Rattle.std.proofs.Common.{◌≡◌, ◌++◌, drop, map}
use Rattle.node_file.specs.Clean.{behind_gates, row_record}
use Rattle.node_file.proofs.batch.spell_batch.Given as goal

abbrev pub invariant-loop-new : goal.invariant-loop-new
invariant-loop-new l = l.bytes.items ++ behind_gates (map row_record (drop l.new-index l.objects)) ≡ behind_gates (map row_record l.objects)
