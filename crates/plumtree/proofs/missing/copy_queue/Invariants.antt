use Rattle.std.proofs.Common.{◌≡◌, ◌++◌, drop}
use Rattle.plumtree.proofs.missing.copy_queue.Given as goal

abbrev pub invariant-loop-announcement : goal.invariant-loop-announcement
invariant-loop-announcement l = l.copy.items ++ drop l.announcement-index l.queue ≡ l.queue
