-- What a node waits for.
use Rattle.std.specs.Prelude.{ℕ, List}
use Rattle.meta_types.specs.Name.{Key}
use Rattle.dvvset.specs.Object.{Counter}
use Rattle.plumtree.specs.declared.entry.Announcer.{Announcer}

-- an object that was announced and isn't here: its key and vector, who announced it, in order, and
-- how many ticks are left until the first of them is asked for it
pub record MissingObject : Type 0 where
  pub key : Key
  pub vector : List Counter
  pub announcers : List Announcer
  pub ticks : ℕ
