-- The turns so far lead from the first places to the next ones.
use Rattle.std.proofs.Common.{◌≡◌, ℕ, List, [], ◌∷◌, ◌++◌, refl}
use Rattle.node_journal.specs.Closed.{ClosedNode}
use Rattle.run_record.specs.Order.{HasEnded, IsOrderFrom, CanComeNext, with_turn}
use Rattle.run_record.specs.declared.order.Turn.{Turn}

-- from these places the turns lead to those
abbrev pub Goes : List ClosedNode → List ℕ → List Turn → List ℕ → Type 0
Goes closed first [] next = first ≡ next
Goes closed first (turn ∷ later) next =
    CanComeNext closed first turn × Goes closed (with_turn first turn.node) later next

-- one turn more at the end
pub goes_on : (closed : List ClosedNode) (order : List Turn) (first next : List ℕ) (turn : Turn)
    → Goes closed first order next → CanComeNext closed next turn
    → Goes closed first (order ++ turn ∷ []) (with_turn next turn.node)
goes_on closed [] first next turn goes ready =
    (rw goes ready, rw goes refl)
goes_on closed (t ∷ later) first next turn goes ready =
    (goes.0, goes_on closed later (with_turn first t.node) next turn goes.1 ready)

-- if all have ended, the turns are an order
pub goes_to_end : (closed : List ClosedNode) (order : List Turn) (first next : List ℕ)
    → Goes closed first order next → ((n : ℕ) → HasEnded closed next n)
    → IsOrderFrom closed first order
goes_to_end closed [] first next goes ended = rw goes ended
goes_to_end closed (t ∷ later) first next goes ended =
    (goes.0, goes_to_end closed later (with_turn first t.node) next goes.1 ended)
