-- What is published only grows: later objects of a key know all that earlier ones knew.
use Rattle.std.specs.Prelude.{◌≡◌, true, List, [], ◌∷◌, ◌++◌}
use mathlib.Core.List.{IsPrefix}
use Rattle.meta_types.specs.Name.{Key}
use Rattle.dvvset.specs.Object.{Counter}
use Rattle.dvvset.specs.Clock.{descends, join}
use Rattle.meta_store.specs.Table.{IsTable, Table, object_at}
use Rattle.node_core.specs.Growing.{Descends}
use Rattle.node_readers.specs.Published.{Published, with_all, with_published}

-- the table with the change put in is a table, whose objects know all that was known before
pub record GrowsBy (table : Table) (change : Published) : Type 0 where
  pub is_table : IsTable (with_published table change)
  pub descends : Descends table (with_published table change)

-- each of the changes grows what those before it leave of the table
abbrev pub GrowsByAll : Table → List Published → Type 0
GrowsByAll table [] = Unit {0}
GrowsByAll table (change ∷ changes) =
    GrowsBy table change × GrowsByAll (with_published table change) changes

-- after each beginning of the changes there is a table, and what all of them leave knows all that
-- was known there
pub record Grows (opening : Table) (list : List Published) : Type 0 where
  pub tables : (first : List Published) → IsPrefix first list → IsTable (with_all opening first)
  pub descends : (first : List Published) → IsPrefix first list
      → Descends (with_all opening first) (with_all opening list)

-- the vector knows all that was known under the key after each beginning of the changes
abbrev pub DescendsEach : Table → List Published → Key → List Counter → Type 0
DescendsEach opening list key vector = (first : List Published) → IsPrefix first list
    → descends vector (join (object_at (with_all opening first) key)) ≡ true

-- what has only grown and grows by one more change has only grown
abbrev pub GrowthGoesOn : Type 0
GrowthGoesOn = (opening : Table) (list : List Published) (change : Published)
    → Grows opening list → GrowsBy (with_all opening list) change
    → Grows opening (list ++ change ∷ [])

-- what has only grown and grows by all of these changes has only grown
abbrev pub GrowthGoesOnByAll : Type 0
GrowthGoesOnByAll = (opening : Table) (list changes : List Published)
    → Grows opening list → GrowsByAll (with_all opening list) changes
    → Grows opening (list ++ changes)

-- a table that grows by all of the changes, and then by one more, grows by all of them
abbrev pub OneMoreGrowsToo : Type 0
OneMoreGrowsToo = (table : Table) (changes : List Published) (change : Published)
    → GrowsByAll table changes → GrowsBy (with_all table changes) change
    → GrowsByAll table (changes ++ change ∷ [])
