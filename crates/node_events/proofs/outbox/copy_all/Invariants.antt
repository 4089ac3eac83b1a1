use Rattle.std.proofs.Common.{◌≡◌, take}
use Rattle.node_events.proofs.outbox.copy_all.Given as goal

abbrev pub invariant-loop-frame : goal.invariant-loop-frame
invariant-loop-frame l = l.copies.items ≡ take l.frame-index l.frames
