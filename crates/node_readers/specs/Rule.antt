-- The rule of the copies: which one is published, beside what each seat knows of it.
use Rattle.std.specs.Prelude.{◌≡◌, ℕ, List}
use mathlib.Core.List.{IsPrefix}
use mathlib.Core.Option.{some}
use lib.ListN.{get_elem?}
use Rattle.logbook.specs.Pages.{Book}
use Rattle.meta_store.specs.Table.{Table}
use Rattle.node_readers.specs.Published.{Published}
use Rattle.node_readers.specs.Copies.{IsCopy, TableView}

-- the list begins with what each seat knows
abbrev pub BeginsWithEach : List Published → List (List Published) → Type 0
BeginsWithEach list known = (seat : ℕ) (its : List Published)
    → get_elem? known seat ≡ some its → IsPrefix its list

-- the published copy is one of this history, and has all that each seat knows
abbrev pub HoldsCopies : Book → Table → TableView → List (List Published) → Type 0
HoldsCopies book opening copy known = IsCopy book opening copy × BeginsWithEach copy.list known

-- the seat then knows the changes of the copy that is published from then on, which has all that it
-- knew before
abbrev pub TakesCopy : Book → Table → List Published → TableView → TableView → List Published
    → Type 0
TakesCopy book opening before copy next after =
    IsCopy book opening next × IsPrefix before next.list × (after ≡ next.list)
