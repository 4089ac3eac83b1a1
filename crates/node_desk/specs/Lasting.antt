-- What stays, whatever a crash leaves: the writes of a node in its file.
use Rattle.std.specs.Prelude.{◌≡◌, ◌<◌, ◌+◌, ℕ, List, ◌++◌, map, All, Some, None, Ok, true}
use Rattle.meta_types.specs.Name.{Key}
use Rattle.meta_store.specs.Table.{Table, object_at}
use Rattle.dvvset.specs.Object.{Counter}
use Rattle.dvvset.specs.Clock.{descends, join}
use Rattle.node_core.specs.Growing.{Descends}
use Rattle.node_core.specs.Handling.{key_of_write}
use Rattle.node_core.specs.Node.{NodeParts, opening}
use Rattle.node_core.specs.Run.{IsRun}
use Rattle.node_events.specs.declared.reply.Reply.TheVariants.{Wrote}
use Rattle.node_file.specs.File.{file_state, opened}
use Rattle.node_journal.specs.declared.entry.Entry.{Entry}
use Rattle.node_journal.specs.Entry.{step_of}

-- if the entry is a write, the table knows it: under its key all events are counted that its reply
-- tells
abbrev pub KnowsWrite : Table → Entry → Type 0
KnowsWrite table e = (key : Key) (vector : List Counter) → key_of_write e.event ≡ Some key
    → e.reply ≡ Wrote vector → descends (join (object_at table key)) vector ≡ true

-- the bytes are a file of the node, whose last life is this one; its table knows all that this one
-- knows, and the writes among these entries
pub record IsFileWith (node life : ℕ) (known : Table) (entries : List Entry) (bytes : List ℕ)
    : Type 0 where
  pub gate : ℕ
  pub opens : opened None bytes ≡ Ok (file_state bytes, gate)
  pub version : (file_state bytes).version ≡ 2
  pub node_is : (file_state bytes).node ≡ node
  pub life_is : (file_state bytes).contents.life ≡ life
  pub grows : Descends known (file_state bytes).contents.table
  pub writes : All (KnowsWrite (file_state bytes).contents.table) entries

-- ---- lives

-- a life that is begun in such a file has a greater number; and a file of that life, or of a later
-- one, which opened with what the earlier file had, knows the writes of both, and all that the
-- earlier life opened with
pub record WritesStay : Type 0 where
  pub next : (node life next : ℕ) (known : Table) (entries : List Entry) (bytes : List ℕ)
      → IsFileWith node life known entries bytes
      → next ≡ (file_state bytes).contents.life + 1 → life < next
  pub later : (node life later : ℕ) (known : Table) (first second : List Entry)
      (bytes last : List ℕ) → IsFileWith node life known first bytes
      → IsFileWith node later (file_state bytes).contents.table second last
      → IsFileWith node later known (first ++ second) last

-- a new node in its life, with the table that it opened with, came to the base, from which its
-- journal goes on; and a crash leaves only files that know that table and all its writes
pub record KeepsWrites {D : Type 0} (may_leave : D → List ℕ → Type 0) (node life : ℕ)
    (table : Table) (base : NodeParts) (journal : List Entry) (device : D) : Type 0 where
  pub before : List Entry
  pub run : IsRun (opening node life table) (map step_of before) base
  pub leaves : (bytes : List ℕ) → may_leave device bytes
      → IsFileWith node life table (before ++ journal) bytes
