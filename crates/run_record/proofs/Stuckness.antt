-- A stuck run has no order.
use Rattle.std.proofs.Common.{ℕ, List, [], ◌∷◌, arith}
use Rattle.node_journal.specs.Closed.{ClosedNode}
use Rattle.run_record.specs.Order.{IsOrderFrom, with_turn}
use Rattle.run_record.specs.Passing.{NoneIsPast}
use Rattle.run_record.specs.Refusal.{AStuckRunHasNoOrder, NoneIsStuck}
use Rattle.run_record.specs.declared.order.Turn.{Turn}
use Rattle.run_record.proofs.Stalling.{ended_unstuck}
use Rattle.run_record.proofs.Waiting.{past_step}

in_order : (closed : List ClosedNode) (order : List Turn) (next : List ℕ)
    → NoneIsPast closed next → IsOrderFrom closed next order → NoneIsStuck closed
in_order closed [] next past goes = ended_unstuck closed next past goes
in_order closed (turn ∷ later) next past goes =
    in_order closed later (with_turn next turn.node)
    (past_step closed next turn past goes.0) goes.1

pub stuck_has_none : AStuckRunHasNoOrder
stuck_has_none closed places order stuck o =
    in_order closed order o.first
    (λ ps s n r l. let zero = o.are_first.zero n in omega (arith, zero)) o.goes places stuck
