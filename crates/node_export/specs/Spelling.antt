-- The bytes of a reply, and of what is told without a step, as a program is handed them. Numbers
-- have their highest byte first. The rule is our own.
use Rattle.std.specs.Prelude.{ℕ, Bool, List, [], ◌∷◌, ◌++◌, length, not, Option, Some, None, is_some, if◌then◌else◌}
use Rattle.std.specs.Int.{w16, w32, w64, to_be_bytes}
use Rattle.std.specs.List.{flat_map, list_all}
use Rattle.meta_types.specs.Actor.{incarnation_of_writer, node_of_writer}
use Rattle.meta_types.specs.Name.{Key, Prefix}
use Rattle.meta_types.specs.Value.{ValueParts}
use Rattle.dvvset.specs.Clock.{values_of}
use Rattle.dvvset.specs.Object.{Counter}
use Rattle.frame_fields.specs.Field.{key, prefix}
use Rattle.meta_store.specs.Table.{Table, keys_under, object_at, prefixes_of}
use Rattle.subscriptions.specs.declared.change.Change.{Change}
use Rattle.node_events.specs.declared.reply.Reply.{Reply}
use Rattle.node_events.specs.declared.reply.Reply.TheVariants.{Looked, Wrote, Took, TookFresh, TookStale, Done, Watching, Changed}

-- a number in 8 bytes
abbrev pub word : ℕ → List ℕ
word n = to_be_bytes w64 n

-- 1, the length of a body and its bytes, or 0 for a tombstone
abbrev pub body_bytes : Option (List ℕ) → List ℕ
body_bytes None = 0 ∷ []
body_bytes (Some body) = 1 ∷ (word (length body) ++ body)

-- the stamp of a value, and its body
abbrev pub value_bytes : ValueParts → List ℕ
value_bytes value = word value.stamp ++ body_bytes value.body

-- how many values there are, and each
abbrev pub values_bytes : List ValueParts → List ℕ
values_bytes values = word (length values) ++ flat_map value_bytes values

-- the node and the life of a writer, and how many of its writes are known
abbrev pub counter_bytes : Counter → List ℕ
counter_bytes c =
    to_be_bytes w16 (node_of_writer c.id)
    ++ (to_be_bytes w32 (incarnation_of_writer c.id) ++ word c.count)

-- how many writers a vector has, which in a frame take 2 bytes, and each
abbrev pub vector_bytes : List Counter → List ℕ
vector_bytes counters = word (length counters) ++ flat_map counter_bytes counters

-- the key of a change, as in a frame, and its vector
abbrev pub change_bytes : Change → List ℕ
change_bytes change = key.spell change.key ++ vector_bytes change.vector

-- how many changes there are, and each
abbrev pub changes_bytes : List Change → List ℕ
changes_bytes changes = word (length changes) ++ flat_map change_bytes changes

-- a byte that says which reply it is, and what that says
abbrev pub reply_bytes : Reply → List ℕ
reply_bytes (Looked values context) = 1 ∷ values_bytes values
reply_bytes (Wrote vector) = 2 ∷ []
reply_bytes Took = 3 ∷ []
reply_bytes TookFresh = 4 ∷ []
reply_bytes TookStale = 5 ∷ []
reply_bytes Done = 6 ∷ []
reply_bytes (Watching number) = 7 ∷ word number
reply_bytes (Changed missed changes) = 8 ∷ (word missed ++ changes_bytes changes)

-- ---- what is told without a step

-- the full prefixes of a table, in order, each as in a frame
abbrev pub prefixes_bytes : Table → List ℕ
prefixes_bytes held = flat_map prefix.spell (prefixes_of held)

-- a value without a body, as a deletion writes it
abbrev pub is_tombstone : ValueParts → Bool
is_tombstone value = not (is_some value.body)

-- all values that a table shows under a key are those of deletions
abbrev pub is_deleted : Table → Key → Bool
is_deleted held named = list_all is_tombstone (values_of (object_at held named))

-- 1 if the key is deleted, else 0, and the key as in a frame
abbrev pub marked_key : Table → Key → List ℕ
marked_key held named = (if is_deleted held named then 1 else 0) ∷ key.spell named

-- the keys of a table under a full prefix, in order, each with its mark
abbrev pub list_bytes : Prefix → Table → List ℕ
list_bytes under held = flat_map (marked_key held) (keys_under under held)

-- what a table shows under a key
abbrev pub shown_bytes : Key → Table → List ℕ
shown_bytes named held = values_bytes (values_of (object_at held named))

-- the numbers of nodes, each in 2 bytes
abbrev pub nodes_bytes : List ℕ → List ℕ
nodes_bytes nodes = flat_map (to_be_bytes w16) nodes
