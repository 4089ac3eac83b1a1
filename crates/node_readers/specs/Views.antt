-- What contracts see of a seat and of the publisher, and why a look is refused.
use Rattle.std.specs.Prelude.{◌≡◌, ◌⊎◌, Bool, List}
use mathlib.Core.List.{IsPrefix}
use Rattle.node_readers.specs.Published.{Published}
use Rattle.node_readers.specs.declared.fault.PeekFault.{PeekFault}
use Rattle.node_readers.specs.declared.fault.PeekFault.TheVariants.{Stopped, Memory}

-- the changes that the seat was shown, and those that it learnt of
pub record SeatView : Type 0 where
  pub shown : List Published
  pub learnt : List Published

-- all changes that were published, and whether no more will be
pub record PublisherView : Type 0 where
  pub list : List Published
  pub stopped : Bool

-- why nothing is shown of a copy with the changes of the list: it lacks what was learnt; or it has
-- all that, and memory ran out
abbrev pub RefusesCopy : List Published → List Published → PeekFault → Type 0
RefusesCopy learnt list Stopped = IsPrefix learnt list → ⊥
RefusesCopy learnt list Memory = IsPrefix learnt list

-- why a look is refused, after which the seat was shown the changes of `new`: the publisher is
-- gone, and then they are those from before; or it is refused of the copy that has them
abbrev pub RefusesLook : List Published → List Published → List Published → PeekFault → Type 0
RefusesLook learnt old new fault =
    ((fault ≡ Stopped) × (new ≡ old)) ⊎ RefusesCopy learnt new fault
