-- The object machine: what the nodes hold, what was seen and sent, and what the images hold, as
-- objects. It goes over the happenings of the past (`Past` of past_model) and is written part by
-- part as that is, with an object where the past has a set of writes, `sync` where it has a union,
-- and `update` where it adds a write. It has no sets, no list of writes, and no counters of its
-- own. The rule is our own.
use Rattle.std.specs.Prelude.{ℕ, ◌+◌, if◌then◌else◌, List, [], ◌∷◌, Option, Some, None}
use Rattle.meta_types.specs.Actor.{writer_number}
use Rattle.meta_types.specs.Name.{Key}
use Rattle.meta_types.specs.Value.{ValueParts}
use Rattle.dvvset.specs.Object.{Entry}
use Rattle.dvvset.specs.Clock.{join, sync, update}
use Rattle.past_model.specs.declared.happening.Happening.{Happening}
use Rattle.past_model.specs.declared.happening.Happening.TheVariants.{Wrote, Looked, Sent, Got, Kept, Restarted}
use Rattle.past_model.specs.Sets.{set_at}
use Rattle.meta_types.specs.Equal.{key_eq}

-- an object under each key; the empty list is the absent one
abbrev pub Holding : Type 0
Holding = Key → List Entry

abbrev pub holds_nothing : Holding
holds_nothing k = []

-- the object under k, and under each other key what there was
abbrev pub with_held : Holding → Key → List Entry → Holding
with_held t k object l = if key_eq l k then object else t l

abbrev pub sync_by_key : Holding → Holding → Holding
sync_by_key t u k = sync (t k) (u k)

-- `seen` has, at the place of a Looked, what its node held under its key; `load` has it at the
-- place of a Sent. Images are numbered from 0, which is the empty one; a node's standing image is
-- what its next image starts from: its newest, or the image of its last restart if that came later.
pub record Objects : Type 0 where
  pub next : ℕ  -- the place of the next happening
  pub held : ℕ → Holding  -- of each node
  pub seen : ℕ → Holding  -- by place
  pub load : ℕ → Holding  -- by place
  pub last : ℕ → ℕ  -- the number of a node's newest image
  pub images : ℕ → ℕ → Holding  -- of each node, by number
  pub standing : ℕ → Holding  -- of each node
  pub restarts : ℕ → ℕ  -- how often a node has restarted

abbrev pub first_objects : Objects
first_objects = record {
  next = 0;
  held = λ n. holds_nothing;
  seen = λ p. holds_nothing;
  load = λ p. holds_nothing;
  last = λ n. 0;
  images = λ n j. holds_nothing;
  standing = λ n. holds_nothing;
  restarts = λ n. 0;
}

-- the life that the node is in: its first is 1, and each restart begins the next
abbrev pub incarnation_in_objects : Objects → ℕ → ℕ
incarnation_in_objects o n = o.restarts n + 1

-- the writer of a write that the node makes now: the node in the life that it is in
abbrev pub writer_in_objects : Objects → ℕ → ℕ
writer_in_objects o n = writer_number n (incarnation_in_objects o n)

-- the object that a write under the key has read: none, or what the Looked at place r saw
abbrev pub read_in_objects : Objects → Key → Option ℕ → List Entry
read_in_objects o k None = []
read_in_objects o k (Some r) = o.seen r k

-- the node holds the object under the key, and nothing else changes
abbrev pub holds : ℕ → Key → List Entry → Objects → Objects
holds n k object o = record o { held = set_at o.held n (with_held (o.held n) k object) }

-- the node makes its next image: the standing one, with what it holds now under the key
abbrev pub with_next_held_image : ℕ → Key → Objects → Objects
with_next_held_image n k o =
    let image : Holding = with_held (o.standing n) k (o.held n k) in
    record o {
      last = set_at o.last n (o.last n + 1);
      images = set_at o.images n (set_at (o.images n) (o.last n + 1) image);
      standing = set_at o.standing n image;
    }

-- the node holds, under the key, what it held with the write added, which had read that object
abbrev pub holds_write : ℕ → Key → ValueParts → Option ℕ → Objects → Objects
holds_write n k v r o =
    holds n k
    (update (join (read_in_objects o k r)) (o.held n k) (writer_in_objects o n) v) o

-- the node holds what the image has, its images start from that, and its next life begins
abbrev pub with_held_image_restored : ℕ → ℕ → Objects → Objects
with_held_image_restored n j o =
    record o {
      held = set_at o.held n (o.images n j);
      standing = set_at o.standing n (o.images n j);
      restarts = set_at o.restarts n (o.restarts n + 1);
    }

-- what a happening changes, except the next place
abbrev pub changed_objects : Objects → Happening → Objects
changed_objects o (Wrote n k v r) = with_next_held_image n k (holds_write n k v r o)
changed_objects o (Looked n k) =
    record o { seen = set_at o.seen o.next (with_held holds_nothing k (o.held n k)) }
changed_objects o (Sent n k) =
    record o { load = set_at o.load o.next (with_held holds_nothing k (o.held n k)) }
changed_objects o (Got n i) =
    record o { held = set_at o.held n (sync_by_key (o.held n) (o.load i)) }
changed_objects o (Kept n k) = with_next_held_image n k o
changed_objects o (Restarted n j) = with_held_image_restored n j o

abbrev pub next_objects : Objects → Happening → Objects
next_objects o h = record (changed_objects o h) { next = o.next + 1 }

abbrev pub objects_after : Objects → List Happening → Objects
objects_after o [] = o
objects_after o (h ∷ hs) = objects_after (next_objects o h) hs

-- ---- words over a history

abbrev pub objects : List Happening → Objects
objects hs = objects_after first_objects hs

-- what the node holds under the key
abbrev pub held_object : List Happening → ℕ → Key → List Entry
held_object hs n k = (objects hs).held n k

-- what the Looked at the place saw, and what the Sent at the place sent
abbrev pub seen_object : List Happening → ℕ → Key → List Entry
seen_object hs p k = (objects hs).seen p k

abbrev pub sent_object : List Happening → ℕ → Key → List Entry
sent_object hs p k = (objects hs).load p k

-- the object that a write under the key that names r would have read, were it made now
abbrev pub object_of_read : List Happening → Key → Option ℕ → List Entry
object_of_read hs k r = read_in_objects (objects hs) k r

-- the life that the node is in, and the writer of a write that it would make now
abbrev pub incarnation : List Happening → ℕ → ℕ
incarnation hs n = incarnation_in_objects (objects hs) n

abbrev pub next_writer : List Happening → ℕ → ℕ
next_writer hs n = writer_in_objects (objects hs) n

-- the number of the node's newest image, and what an image of the node has under the key
abbrev pub last_image : List Happening → ℕ → ℕ
last_image hs n = (objects hs).last n

abbrev pub image_object : List Happening → ℕ → ℕ → Key → List Entry
image_object hs n j k = (objects hs).images n j k

-- what the node's next image starts from
abbrev pub standing_object : List Happening → ℕ → Key → List Entry
standing_object hs n k = (objects hs).standing n k
