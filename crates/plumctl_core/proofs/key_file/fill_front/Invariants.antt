use Rattle.std.proofs.Common.{◌-◌, ◌≤◌, length, take}
use Rattle.std.specs.Io.KnownBytes.{Consumes}
use Rattle.plumctl_core.proofs.key_file.fill_front.Given as goal

abbrev pub invariant-loop-len : goal.invariant-loop-len
invariant-loop-len g l =
    (l.len ≤ length l.room)
    × Consumes (g.R.Source.at l.fn.reader).remaining (g.R.Source.at l.reader).remaining (take l.len l.room)
    × ((g.R.Source.at l.reader).failed → (g.R.Source.at l.fn.reader).failed)

abbrev pub decreases-loop-len : goal.decreases-loop-len
decreases-loop-len g l = length l.room - l.len
