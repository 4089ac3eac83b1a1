use Rattle.std.proofs.Common.{◌≤◌, take}
use Rattle.cluster_worker.specs.Passes.{ArePassesInto}
use Rattle.cluster_worker.specs.Frames.{ArePutOrLost}
use Rattle.cluster_worker.proofs.sending.send_all.Given as goal

abbrev pub invariant-loop-frame : goal.invariant-loop-frame
invariant-loop-frame g l = record {
  passes : ArePassesInto l.inboxes l.puts.items;
  sent : ArePutOrLost l.inboxes l.fn.puts.items (take l.frame-index l.frames) l.lost l.puts.items;
  few : l.lost ≤ l.frame-index;
}
