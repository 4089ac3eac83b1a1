use Rattle.std.proofs.Common.{◌≡◌, length}
use Rattle.node_core.specs.Savepoint.{CanHoldAgain, held_again}
use Rattle.node_core.proofs.savepoint.hold_again.Given as goal

abbrev pub invariant-loop-former : goal.invariant-loop-former
invariant-loop-former l =
    (held_again l.formers.items l.held ≡ held_again l.initial.formers.items l.initial.held)
    × CanHoldAgain l.formers.items l.held

abbrev pub decreases-loop-former : goal.decreases-loop-former
decreases-loop-former l = length l.formers.items
