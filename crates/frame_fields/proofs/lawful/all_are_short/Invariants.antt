use Rattle.std.proofs.Common.{take, All}
use Rattle.frame_fields.specs.Size.{IsShort}
use Rattle.frame_fields.proofs.lawful.all_are_short.Given as goal

abbrev pub invariant-loop-entry : goal.invariant-loop-entry
invariant-loop-entry l = All IsShort (take l.entry-index l.entries)
