use Rattle.std.proofs.Common.{◌≡◌, ◌++◌, drop}
use Rattle.peer_lists.specs.Lists.{without_all}
use Rattle.peer_lists.proofs.lists.without_all.Given as goal

abbrev pub invariant-loop-member : goal.invariant-loop-member
invariant-loop-member l = l.left.items ++ without_all l.excluded (drop l.member-index l.members) ≡ without_all l.excluded l.members
