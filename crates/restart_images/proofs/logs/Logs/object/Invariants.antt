use Rattle.std.proofs.Common.{◌≡◌, take}
use Rattle.restart_images.specs.Logs.{whole_object}
use Rattle.restart_images.proofs.logs.Logs.object.Given as goal

abbrev pub invariant-loop-entry : goal.invariant-loop-entry
invariant-loop-entry l = l.object.items ≡ whole_object l.self (take l.entry-index l.entries)
