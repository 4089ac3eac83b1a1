-- What is left of a node that was closed.
use Rattle.std.specs.Prelude.{◌≡◌, ◌<◌, ◌≤◌, ℕ, List, All}
use mathlib.Core.List.{IsPrefix}
use Rattle.node_readers.specs.Published.{Published}
use Rattle.node_readers.specs.Views.{SeatView}
use Rattle.node_call.specs.declared.fault.LockFault.{LockFault}
use Rattle.node_call.specs.declared.fault.LockFault.TheVariants.{SeatsMissing, Stopped}
use Rattle.node_desk.specs.Desk.{most_seats}

-- what the reader was shown, and what it learnt, are beginnings of the list
pub record IsWithin (list : List Published) (seat : SeatView) : Type 0 where
  pub shown : IsPrefix seat.shown list
  pub learnt : IsPrefix seat.learnt list

-- fewer seats were handed in than are out, of which there are eight at most; or, if they are as
-- many, a reader was shown or has learnt what isn't in the list
abbrev pub RefusesClosing : ℕ → ℕ → List Published → List SeatView → LockFault → Type 0
RefusesClosing out given list readers SeatsMissing = (given < out) × (out ≤ most_seats)
RefusesClosing out given list readers Stopped =
    (given ≡ out) × (All (IsWithin list) readers → ⊥)
RefusesClosing out given list readers fault = ⊥
