use Rattle.std.proofs.Common.{◌≡◌, drop}
use Rattle.std.specs.List.{find}
use Rattle.peer_lists.specs.Lists.{has}
use Rattle.hyparview.proofs.rows.member_to_replace.Given as goal

abbrev pub invariant-loop-node : goal.invariant-loop-node
invariant-loop-node l = find (has l.passive) (drop l.node-index l.given) ≡ find (has l.passive) l.given
