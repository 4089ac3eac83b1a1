-- A store that is filled from an image, change by change: what private functions alone cite. The
-- rule is our own.
use Rattle.std.specs.Prelude.{◌≡◌, Option, Some, None, List, is_none, false, if◌then◌else◌}
use Rattle.std.specs.FinMap.{find}
use Rattle.meta_types.specs.Name.{Key}
use Rattle.meta_types.specs.Order.{key_cmp}
use Rattle.dvvset.specs.Object.{Entry}
use Rattle.meta_store.specs.Table.{Table, with_object}
use Rattle.meta_store.specs.Step.{is_full_for}

-- a change under whose key nothing is held
abbrev pub filled : Table → Option (Key × List Entry) → Table
filled table None = table
filled table (Some change) =
    if is_none (find key_cmp change.0 table)
    then with_object change.0 change.1 table
    else table

-- there is room for the object of a change
abbrev pub HasRoomFor : Table → Option (Key × List Entry) → Type 0
HasRoomFor table None = Unit {0}
HasRoomFor table (Some change) = is_full_for table change.0 ≡ false
