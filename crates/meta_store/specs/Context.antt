-- What a read hands out, for a later write that has read it.
use Rattle.std.specs.Prelude.{List, [], Option, Some, None}
use Rattle.meta_types.specs.Name.{Key}
use Rattle.dvvset.specs.Object.{Counter}
use Rattle.dvvset.specs.Clock.{join}
use Rattle.meta_store.specs.Table.{Table, object_at}
use Rattle.meta_store.specs.declared.source.Source.{Source}

-- the key that was read, the vector of the object there, and who read
pub record Reading : Type 0 where
  pub key : Key
  pub vector : List Counter
  pub source : Source

-- what a read of a table under the key hands out
abbrev pub reading_at : Table → Key → Source → Reading
reading_at table key source =
    record { key = key; vector = join (object_at table key); source = source }

-- the vector that a write has read: the vector of its context, or the empty one
abbrev pub vector_read : Option Reading → List Counter
vector_read None = []
vector_read (Some context) = context.vector
