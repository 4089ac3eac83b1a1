-- One image of a node, as it is lent: the number of the image that it changes, and the object that
-- stands under a key instead; none if nothing is changed. The rule is our own.
use Rattle.std.specs.Prelude.{ℕ, List, Option, Some, None, if◌then◌else◌}
use Rattle.meta_types.specs.Name.{Key}
use Rattle.meta_types.specs.Equal.{key_eq}
use Rattle.dvvset.specs.Object.{Entry}
use Rattle.meta_store.specs.Table.{IsHeld}

pub record Image : Type 0 where
  pub base : ℕ
  pub change : Option (Key × List Entry)

-- the object of a change may be held
abbrev pub IsChange : Option (Key × List Entry) → Type 0
IsChange None = Unit {0}
IsChange (Some change) = IsHeld change.1

-- what stands under the key instead, if the change is of that key
abbrev pub instead : Option (Key × List Entry) → Key → Option (List Entry)
instead None k = None
instead (Some change) k = if key_eq k change.0 then Some change.1 else None
