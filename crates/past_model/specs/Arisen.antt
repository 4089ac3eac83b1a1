-- Objects that arise in one history, and their order by inclusion.
use Rattle.std.specs.Prelude.{◌≡◌, ℕ, List, [], ◌∷◌, ◌++◌, Option}
use Rattle.meta_types.specs.Name.{Key}
use Rattle.meta_types.specs.Value.{ValueParts}
use Rattle.dvvset.specs.Object.{Entry}
use Rattle.dvvset.specs.Clock.{join, update}
use Rattle.past_model.specs.declared.happening.Happening.{Happening}
use Rattle.past_model.specs.declared.happening.Happening.TheVariants.{Wrote}
use Rattle.past_model.specs.Sets.{Places, IsSubset}
use Rattle.past_model.specs.Past.{Write, In, past, writes, known, read, seen, load, image, writer_of}
use Rattle.past_model.specs.History.{IsHistory}
use Rattle.past_model.specs.Shown.{IsClosed, IsObjectOf, count_in}

-- the object of a closed set of writes of a history
pub record IsArisen (hs : List Happening) (k : Key) (object : List Entry) : Type 0 where
  pub history : IsHistory hs
  pub set : Places
  pub object_of : IsObjectOf (writes hs) k set object

-- an object is below another if its set is a subset of the other's
pub record IsBelow (hs : List Happening) (k : Key) (lower upper : List Entry) : Type 0 where
  pub lesser : Places
  pub greater : Places
  pub of_lesser : IsObjectOf (writes hs) k lesser lower
  pub of_greater : IsObjectOf (writes hs) k greater upper
  pub within : IsSubset lesser greater

-- above both, and below every arisen object that is above both
pub record IsLeastUpperBound (hs : List Happening) (k : Key) (a b bound : List Entry) : Type 0 where
  pub first : IsBelow hs k a bound
  pub second : IsBelow hs k b bound
  pub least : (c : List Entry) → IsArisen hs k c → IsBelow hs k a c → IsBelow hs k b c
      → IsBelow hs k bound c

-- each set that the past has under the key is closed
pub record ReachesClosed (hs : List Happening) (k : Key) : Type 0 where
  pub of_nodes : (n : ℕ) → IsClosed (writes hs) k (known hs n k)
  pub of_looks : (p : ℕ) → IsClosed (writes hs) k (seen hs p k)
  pub of_sendings : (p : ℕ) → IsClosed (writes hs) k (load hs p k)
  pub of_images : (n j : ℕ) → IsClosed (writes hs) k (image hs n j k)
  pub of_writes : (x : Write) → In x (writes hs) → x.key ≡ k → IsClosed (writes hs) k x.read

-- the counter of a write: how many writes of its writer its node knows under the key right after it
abbrev pub counter_of : List Happening → ℕ → Key → ValueParts → Option ℕ → ℕ
counter_of before n k v r =
    let after : List Happening = before ++ Wrote n k v r ∷ [] in
    count_in (writes after) (known after n k) (writer_of (past before) n)

-- the writer that the node is after these happenings
abbrev pub writer_after : List Happening → ℕ → ℕ
writer_after before n = writer_of (past before) n

-- the object of what the node knows under the key
abbrev pub IsObjectKnown : List Happening → ℕ → Key → List Entry → Type 0
IsObjectKnown hs n k es = IsObjectOf (writes hs) k (known hs n k) es

-- the object of what a write under the key has read
abbrev pub IsObjectRead : List Happening → Option ℕ → Key → List Entry → Type 0
IsObjectRead hs r k es = IsObjectOf (writes hs) k (read hs k r) es

-- the object of a node with object `a` once it wrote the value with the context of object `b`
abbrev pub object_after_write :
    List Happening → ℕ → ValueParts → List Entry → List Entry → List Entry
object_after_write before n v a b = update (join b) a (writer_after before n) v

-- after these happenings the history has a write of the node under the key, and this is its counter
pub record HasWriteAfter (hs before : List Happening) (n : ℕ) (k : Key) (counter : ℕ)
    : Type 0 where
  pub value : ValueParts
  pub read_at : Option ℕ
  pub later : List Happening
  pub split : hs ≡ before ++ Wrote n k value read_at ∷ later
  pub counted : counter ≡ counter_of before n k value read_at
