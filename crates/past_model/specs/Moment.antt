-- What private functions cite: the slow account of a history, and the tests of a happening that it
-- goes by.
use Rattle.std.specs.Prelude.{◌≡◌, ℕ, zero, suc, ◌+◌, ◌<◌, ◌≤◌, ◌==◌, List, [], ◌∷◌, ◌++◌, All, length, take, get_or, slice_get, Option, Some, None, Bool, true, false, ◌&&◌}
use Rattle.std.specs.List.{list_any}
use Rattle.meta_types.specs.Actor.{IsWriter, writer_number}
use Rattle.meta_types.specs.Node.{IsNode}
use Rattle.meta_types.specs.Name.{Key}
use Rattle.dvvset.specs.Object.{RisesFrom}
use Rattle.past_model.specs.declared.happening.Happening.{Happening}
use Rattle.past_model.specs.declared.happening.Happening.TheVariants.{Wrote, Looked, Sent, Got, Kept, Restarted}
use Rattle.past_model.specs.Sets.{Places, Knowledge}
use Rattle.meta_types.specs.Equal.{key_eq}
use Rattle.past_model.specs.Past.{Past, Write, In, past, next_write}
use Rattle.past_model.specs.History.{IsHistory}

-- the node that it happened to
abbrev pub node_of : Happening → ℕ
node_of (Wrote n k v r) = n
node_of (Looked n k) = n
node_of (Sent n k) = n
node_of (Got n i) = n
node_of (Kept n k) = n
node_of (Restarted n j) = n

-- it makes an image of the node
abbrev pub makes_image : ℕ → Happening → Bool
makes_image n (Wrote m k v r) = m == n
makes_image n (Looked m k) = false
makes_image n (Sent m k) = false
makes_image n (Got m i) = false
makes_image n (Kept m k) = m == n
makes_image n (Restarted m j) = false

-- there is a happening, and it is a write under the key
abbrev pub is_write_under : Key → Option Happening → Bool
is_write_under k None = false
is_write_under k (Some (Wrote n l v r)) = key_eq l k
is_write_under k (Some (Looked n l)) = false
is_write_under k (Some (Sent n l)) = false
is_write_under k (Some (Got n i)) = false
is_write_under k (Some (Kept n l)) = false
is_write_under k (Some (Restarted n j)) = false

-- there is a happening, and it is a Looked under the key
abbrev pub is_look_under : Key → Option Happening → Bool
is_look_under k None = false
is_look_under k (Some (Wrote n l v r)) = false
is_look_under k (Some (Looked n l)) = key_eq l k
is_look_under k (Some (Sent n l)) = false
is_look_under k (Some (Got n i)) = false
is_look_under k (Some (Kept n l)) = false
is_look_under k (Some (Restarted n j)) = false

-- there is a happening, and it is a Sent
abbrev pub is_sending : Option Happening → Bool
is_sending None = false
is_sending (Some (Wrote n k v r)) = false
is_sending (Some (Looked n k)) = false
is_sending (Some (Sent n k)) = true
is_sending (Some (Got n i)) = false
is_sending (Some (Kept n k)) = false
is_sending (Some (Restarted n j)) = false

-- the write that a happening makes, if it is one
abbrev pub writes_of_happening : Past → Happening → List Write
writes_of_happening s (Wrote n k v r) = next_write s n k v r ∷ []
writes_of_happening s (Looked n k) = []
writes_of_happening s (Sent n k) = []
writes_of_happening s (Got n i) = []
writes_of_happening s (Kept n k) = []
writes_of_happening s (Restarted n j) = []

-- a node in its first lives
abbrev pub lives_of : ℕ → ℕ → List ℕ
lives_of n zero = []
lives_of n (suc lives) = lives_of n lives ++ writer_number n (suc lives) ∷ []

-- the writer of each write is among these, which rise
pub record AreWriters (ws : List Write) (writers : List ℕ) : Type 0 where
  pub rising : RisesFrom 0 writers
  pub lawful : All IsWriter writers
  pub all : (x : Write) → In x ws → list_any (λ w. w == x.writer) writers ≡ true

-- it restarts the node
abbrev pub restarts_node : ℕ → Happening → Bool
restarts_node n (Wrote m k v r) = false
restarts_node n (Looked m k) = false
restarts_node n (Sent m k) = false
restarts_node n (Got m i) = false
restarts_node n (Kept m k) = false
restarts_node n (Restarted m j) = m == n

-- the set of the places that are marked
abbrev pub marked_places : List Bool → Places
marked_places marks p = get_or marks p false

-- what a node knows, and its standing image, under all keys at once: a place is marked if its write
-- is in the set of its key
pub record Marks : Type 0 where
  pub known : List Bool
  pub standing : List Bool

-- the marks give the set of each key
pub record GivesSets (hs : List Happening) (marks : List Bool) (v : Knowledge) : Type 0 where
  pub gives : (k : Key) (p : ℕ) → (is_write_under k (slice_get hs p) && marked_places marks p)
      ≡ v k p

pub record GivesBoth (hs : List Happening) (m : Marks) (s : Past) (n : ℕ) : Type 0 where
  pub known : GivesSets hs m.known (s.known n)
  pub standing : GivesSets hs m.standing (s.standing n)

-- the marks of moments: the first is the one before all happenings, for any node; each other stands
-- after a happening, for its node
pub record AreMoments (hs : List Happening) (ms : List Marks) : Type 0 where
  pub first : (n : ℕ) (d : Marks) → GivesBoth hs (get_or ms 0 d) (past []) n
  pub later : (p : ℕ) (h : Happening) (d : Marks) → p + 1 < length ms → slice_get hs p ≡ Some h
      → GivesBoth hs (get_or ms (p + 1) d) (past (take (p + 1) hs)) (node_of h)

-- a whole account of a well-formed history
pub record IsAccount (hs : List Happening) (ms : List Marks) : Type 0 where
  pub history : IsHistory hs
  pub nodes : (p : ℕ) (h : Happening) → slice_get hs p ≡ Some h → IsNode (node_of h)
  pub whole : length ms ≡ length hs + 1
  pub moments : AreMoments hs ms

-- the moment whose knowledge a write has read: the moment of its Looked, or the first
abbrev pub moment_read : Option ℕ → ℕ
moment_read None = 0
moment_read (Some r) = r + 1

-- after the first `places` happenings, what the node knows and its standing image are those of the
-- moment
pub record IsLatest (hs : List Happening) (places n moment : ℕ) : Type 0 where
  pub within : moment ≤ places
  pub of_node : (p : ℕ) (h : Happening) → moment ≡ p + 1 → slice_get hs p ≡ Some h → node_of h ≡ n
  pub known : (past (take places hs)).known n ≡ (past (take moment hs)).known n
  pub standing : (past (take places hs)).standing n ≡ (past (take moment hs)).standing n

-- after the first `places` happenings, the node's image number `j` is the standing image of the
-- moment
pub record IsImage (hs : List Happening) (places n j moment : ℕ) : Type 0 where
  pub within : moment ≤ places
  pub of_node : (p : ℕ) (h : Happening) → moment ≡ p + 1 → slice_get hs p ≡ Some h → node_of h ≡ n
  pub image : (past (take places hs)).images n j ≡ (past (take moment hs)).standing n
