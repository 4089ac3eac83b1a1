use Rattle.std.proofs.Common.{◌≡◌, take}
use Rattle.plumctl_core.specs.Output.{without_spaces}
use Rattle.plumctl_core.proofs.line.digits_of.Given as goal

abbrev pub invariant-loop-byte : goal.invariant-loop-byte
invariant-loop-byte l = l.digits.items ≡ without_spaces (take l.byte-index l.line)
