use Rattle.std.proofs.Common.{◌≡◌, ◌++◌, take}
use Rattle.world_core.proofs.frames.Frames.push_each.Given as goal

abbrev pub invariant-loop-frame : goal.invariant-loop-frame
invariant-loop-frame l = l.self ≡ l.fn.self ++ take l.frame-index l.frames
