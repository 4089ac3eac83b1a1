-- Dotted version vector sets, in the form of an object for each key: what an object and a vector
-- are. The idea, and the names `join`, `sync`, `update` and `values`, are those of the works on
-- dotted version vectors of Almeida, Baquero, Gonçalves, Preguiça and Fonte (from 2012 on); there
-- are no anonymous values, the rule here is our own, and no agreement in corner cases is claimed.
use Rattle.std.specs.Prelude.{ℕ, ◌+◌, ◌<◌, ◌≤◌, ◌^◌, List, [], ◌∷◌, length, map, All}
use Rattle.meta_types.specs.Actor.{IsWriter}
use Rattle.meta_types.specs.Value.{ValueParts, IsValue}

-- the events of one writer: how many there were, and the values of the newest of them, newest first
pub record Entry : Type 0 where
  pub id : ℕ
  pub count : ℕ
  pub values : List ValueParts

-- how many events of one writer are known
pub record Counter : Type 0 where
  pub id : ℕ
  pub count : ℕ

-- numbers rise strictly, the first from `low` on
abbrev pub RisesFrom : ℕ → List ℕ → Type 0
RisesFrom low [] = Unit {0}
RisesFrom low (n ∷ ns) = (low ≤ n) × RisesFrom (n + 1) ns

-- the writers of a list of entries, and of a list of counters
abbrev pub ids_of : List Entry → List ℕ
ids_of es = map (λ e. e.id) es

abbrev pub ids_counted : List Counter → List ℕ
ids_counted cs = map (λ c. c.id) cs

-- a count of events: there was at least one
pub record IsCount (n : ℕ) : Type 0 where
  pub least : 1 ≤ n
  pub most : n < 2 ^ 64

-- the writer is a node in one of its lives, it has at least one event, and no more values are shown
-- than it has events
pub record IsEntry (e : Entry) : Type 0 where
  pub writer : IsWriter e.id
  pub counted : IsCount e.count
  pub within : length e.values ≤ e.count
  pub written : All IsValue e.values

-- an object: entries in the order of their writers. The empty list is the absent object.
pub record IsObject (es : List Entry) : Type 0 where
  pub rising : RisesFrom 0 (ids_of es)
  pub entries : All IsEntry es

pub record IsCounter (c : Counter) : Type 0 where
  pub writer : IsWriter c.id
  pub counted : IsCount c.count

-- a vector: counters in the order of their writers. The empty list has read nothing.
pub record IsVector (cs : List Counter) : Type 0 where
  pub rising : RisesFrom 0 (ids_counted cs)
  pub counters : All IsCounter cs
