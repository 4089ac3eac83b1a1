-- Changes that are published, and what they make of a table.
use Rattle.std.specs.Prelude.{List}
use Rattle.std.specs.List.{fold}
use Rattle.meta_types.specs.Name.{Key}
use Rattle.dvvset.specs.Object.{Entry}
use Rattle.meta_store.specs.Table.{Table, with_object}

-- a change: the key, and the object under it from then on
pub record Published : Type 0 where
  pub key : Key
  pub object : List Entry

-- the table with the change put in
abbrev pub with_published : Table → Published → Table
with_published table change = with_object change.key change.object table

-- the table with all these changes put in, in their order
abbrev pub with_all : Table → List Published → Table
with_all opening list = fold with_published opening list
