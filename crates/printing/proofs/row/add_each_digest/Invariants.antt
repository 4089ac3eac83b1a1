use Rattle.std.proofs.Common.{take, map, true}
use Rattle.printing.specs.Row.{digest_text}
use Rattle.printing.specs.Joined.{AddsTexts}
use Rattle.printing.proofs.row.add_each_digest.Given as goal

abbrev pub invariant-loop-digest : goal.invariant-loop-digest
invariant-loop-digest l = AddsTexts true (map digest_text (take l.digest-index l.digests)) l.fn.out.items l.out.items l.first
