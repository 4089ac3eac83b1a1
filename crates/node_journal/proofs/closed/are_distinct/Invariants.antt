use Rattle.std.proofs.Common.{nat_eq, map, drop}
use Rattle.std.specs.List.{IsDistinct}
use Rattle.node_journal.specs.Closed.{number_of}
use Rattle.node_journal.proofs.closed.are_distinct.Given as goal

-- if no number stands twice in what is left, none stands twice in all
abbrev pub invariant-loop-place : goal.invariant-loop-place
invariant-loop-place l = IsDistinct nat_eq (map number_of (drop l.place l.closed))
    → IsDistinct nat_eq (map number_of l.closed)
