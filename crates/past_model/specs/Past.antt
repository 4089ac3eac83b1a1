-- The past: happenings in one order for all nodes, and what each node knows after them. A place is
-- a happening's number in that list, counted from 0; a write is named by its place. The rule is our
-- own. It uses no counters, so that clocks can be measured against it.
use Rattle.std.specs.Prelude.{◌≡◌, ℕ, ◌+◌, List, [], ◌∷◌, Option, Some, None, ◌⊎◌}
use Rattle.meta_types.specs.Actor.{writer_number}
use Rattle.meta_types.specs.Name.{Key}
use Rattle.meta_types.specs.Value.{ValueParts}
use Rattle.past_model.specs.declared.happening.Happening.{Happening}
use Rattle.past_model.specs.declared.happening.Happening.TheVariants.{Wrote, Looked, Sent, Got, Kept, Restarted}
use Rattle.past_model.specs.Sets.{Places, Knowledge, empty, singleton, union, knows_nothing, with_set, union_by_key, set_at}

-- a write: its place, whose it is, and the places of the writes that it had read
pub record Write : Type 0 where
  pub place : ℕ
  pub writer : ℕ
  pub key : Key
  pub value : ValueParts
  pub read : Places

-- a write of the list
abbrev pub In : Write → List Write → Type 0
In x [] = ⊥
In x (y ∷ ys) = (x ≡ y) ⊎ In x ys

-- `seen` has, at the place of a Looked, what its node knew under its key; `load` has it at the
-- place of a Sent. Images are numbered from 0, which is the empty one; a node's standing image is
-- what its next image starts from: its newest, or the image of its last restart if that came later.
pub record Past : Type 0 where
  pub next : ℕ  -- the place of the next happening
  pub writes : List Write  -- the later first
  pub known : ℕ → Knowledge  -- of each node
  pub seen : ℕ → Knowledge  -- by place
  pub load : ℕ → Knowledge  -- by place
  pub last : ℕ → ℕ  -- the number of a node's newest image
  pub images : ℕ → ℕ → Knowledge  -- of each node, by number
  pub standing : ℕ → Knowledge  -- of each node
  pub restarts : ℕ → ℕ  -- how often a node has restarted

abbrev pub start : Past
start = record {
  next = 0;
  writes = [];
  known = λ n. knows_nothing;
  seen = λ p. knows_nothing;
  load = λ p. knows_nothing;
  last = λ n. 0;
  images = λ n j. knows_nothing;
  standing = λ n. knows_nothing;
  restarts = λ n. 0;
}

-- the life that the node is in: its first is 1, and each restart begins the next
abbrev pub incarnation_of : Past → ℕ → ℕ
incarnation_of s n = s.restarts n + 1

-- the writer of a write that the node makes now: the node in the life that it is in
abbrev pub writer_of : Past → ℕ → ℕ
writer_of s n = writer_number n (incarnation_of s n)

-- what a write under the key has read: nothing, or what the Looked at place r saw
abbrev pub read_of : Past → Key → Option ℕ → Places
read_of s k None = empty
read_of s k (Some r) = s.seen r k

-- the node knows S under the key, and nothing else changes
abbrev pub with_known : ℕ → Key → Places → Past → Past
with_known n k S s = record s { known = set_at s.known n (with_set (s.known n) k S) }

-- the node makes its next image: the standing one, with what it knows now under the key
abbrev pub with_next_image : ℕ → Key → Past → Past
with_next_image n k s =
    let image : Knowledge = with_set (s.standing n) k (s.known n k) in
    record s {
      last = set_at s.last n (s.last n + 1);
      images = set_at s.images n (set_at (s.images n) (s.last n + 1) image);
      standing = set_at s.standing n image;
    }

-- the write that the node makes next: the next place is its own
abbrev pub next_write : Past → ℕ → Key → ValueParts → Option ℕ → Write
next_write s n k v r =
    record { place = s.next; writer = writer_of s n; key = k; value = v; read = read_of s k r }

-- the write stands in the list, and its node knows it and what it had read
abbrev pub with_write_known : ℕ → Key → ValueParts → Option ℕ → Past → Past
with_write_known n k v r s =
    record (with_known n k (union (s.known n k) (union (read_of s k r) (singleton s.next))) s) {
      writes = next_write s n k v r ∷ s.writes;
    }

-- the node knows what the image has, its images start from that, and its next life begins
abbrev pub with_image_restored : ℕ → ℕ → Past → Past
with_image_restored n j s =
    record s {
      known = set_at s.known n (s.images n j);
      standing = set_at s.standing n (s.images n j);
      restarts = set_at s.restarts n (s.restarts n + 1);
    }

-- what a happening changes, except the next place
abbrev pub happens_at : Past → Happening → Past
happens_at s (Wrote n k v r) = with_next_image n k (with_write_known n k v r s)
happens_at s (Looked n k) =
    record s { seen = set_at s.seen s.next (with_set knows_nothing k (s.known n k)) }
happens_at s (Sent n k) =
    record s { load = set_at s.load s.next (with_set knows_nothing k (s.known n k)) }
happens_at s (Got n i) = record s { known = set_at s.known n (union_by_key (s.known n) (s.load i)) }
happens_at s (Kept n k) = with_next_image n k s
happens_at s (Restarted n j) = with_image_restored n j s

abbrev pub happens : Past → Happening → Past
happens s h = record (happens_at s h) { next = s.next + 1 }

abbrev pub run : Past → List Happening → Past
run s [] = s
run s (h ∷ hs) = run (happens s h) hs

-- ---- words over a history

abbrev pub past : List Happening → Past
past hs = run start hs

abbrev pub writes : List Happening → List Write
writes hs = (past hs).writes

-- what the node knows under the key
abbrev pub known : List Happening → ℕ → Key → Places
known hs n k = (past hs).known n k

-- what the Looked at the place saw, and what the Sent at the place sent
abbrev pub seen : List Happening → ℕ → Key → Places
seen hs p k = (past hs).seen p k

abbrev pub load : List Happening → ℕ → Key → Places
load hs p k = (past hs).load p k

-- what a write under the key that names r would have read, were it made now
abbrev pub read : List Happening → Key → Option ℕ → Places
read hs k r = read_of (past hs) k r

-- what the node's image has under the key
abbrev pub image : List Happening → ℕ → ℕ → Key → Places
image hs n j k = (past hs).images n j k
