use Rattle.std.proofs.Common.{◌≡◌, map, take}
use Rattle.meta_frame.specs.Frame.{spelling}
use Rattle.node_overlay.proofs.sending.spelled_each.Given as goal

abbrev pub invariant-loop-at : goal.invariant-loop-at
invariant-loop-at l = l.spelled.items ≡ map spelling (take l.at l.fn.frames)
