-- Printed vectors and objects.
use Rattle.std.specs.Prelude.{ℕ, List, ◌++◌, map, codes, decimal}
use Rattle.dvvset.specs.Object.{Entry, Counter}
use Rattle.dvvset.specs.Clock.{join, values_of}
use Rattle.printing.specs.Field.{actor_text, value_text}
use Rattle.printing.specs.Joined.{joined}

-- as `0.1:2`
unfoldable pub counter_text : Counter → List ℕ
counter_text c = actor_text c.id ++ codes ":" ++ decimal c.count

-- a vector, as `0.1:2,1.1:1`
abbrev pub vector_text : List Counter → List ℕ
vector_text cs = joined (map counter_text cs)

-- the values that an object shows, in their order
abbrev pub values_text : List Entry → List ℕ
values_text es = joined (map value_text (values_of es))

-- an object, as `ctx 0.1:1 values x`
abbrev pub object_text : List Entry → List ℕ
object_text es = codes "ctx " ++ vector_text (join es) ++ codes " values " ++ values_text es
