use Rattle.std.proofs.Common.{◌≡◌, take, ◌++◌}
use Rattle.frame_fields.proofs.keys.push_copies.Given as goal

abbrev pub invariant-loop-row : goal.invariant-loop-row
invariant-loop-row l = l.copies.items ≡ l.initial.copies.items ++ take l.row-index l.rows
