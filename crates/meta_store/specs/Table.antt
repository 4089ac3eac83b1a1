-- A table: what one node holds. The rule is our own.
use Rattle.std.specs.Prelude.{◌≡◌, ℕ, ◌≤◌, nat_le, Bool, true, not, ◌&&◌, List, [], length, map, All, Option, Some, None}
use Rattle.std.specs.List.{dedup, filter, list_all}
use Rattle.std.specs.Option.{unwrap_or}
use Rattle.std.specs.Ordering.{is_eq}
use Rattle.std.specs.FinMap.{find, put, is_sorted}
use Rattle.meta_types.specs.Name.{Prefix, Key, IsKey}
use Rattle.meta_types.specs.Order.{key_cmp, prefix_eq}
use Rattle.dvvset.specs.Object.{Entry, Counter, IsObject}
use Rattle.dvvset.specs.Clock.{join, descends}
use Rattle.frame_fields.specs.Field.{object, has_value}

-- keys, each with the object held under it
abbrev pub Table : Type 0
Table = List (Key × List Entry)

-- the object under a key; the empty list is the absent one
abbrev pub object_at : Table → Key → List Entry
object_at table key = unwrap_or (find key_cmp key table) []

-- the table with this object under the key, and all else as before
abbrev pub with_object : Key → List Entry → Table → Table
with_object key object table = put key_cmp key object table

-- the table without the key and its object
abbrev pub without_object : Key → Table → Table
without_object key table = filter (λ row. not (is_eq (key_cmp key row.0))) table

-- the table with what a key held before: this object, or nothing
abbrev pub with_former : Key → Option (List Entry) → Table → Table
with_former key (Some object) table = with_object key object table
with_former key None table = without_object key table

-- the vector of the object under the key has read all that this vector has
abbrev pub is_stale : Table → Key → List Counter → Bool
is_stale table key vector = descends (join (object_at table key)) vector

-- ---- listing

-- the keys under a full prefix, in order, whatever stands under them
abbrev pub keys_under : {X : Type 0} → Prefix → List (Key × X) → List Key
keys_under prefix rows = filter (λ key. prefix_eq prefix key.prefix) (map (λ row. row.0) rows)

-- the full prefixes that hold a key, in order; each once, if rows rise
abbrev pub prefixes_of : {X : Type 0} → List (Key × X) → List Prefix
prefixes_of rows = dedup prefix_eq (map (λ row. row.0.prefix) rows)

-- ---- limits

-- the most keys of a table
abbrev pub most_keys : ℕ
most_keys = 8192

-- the most entries of an object
abbrev pub most_entries : ℕ
most_entries = 65535

-- the most values of one writer that an object shows
abbrev pub most_values : ℕ
most_values = 65535

-- the most bytes of an object, as a field of a frame, after a write and after a merge
abbrev pub most_written : ℕ
most_written = 1048576

abbrev pub most_merged : ℕ
most_merged = 16000000

-- the entry shows few enough values
abbrev pub has_few_values : Entry → Bool
has_few_values e = nat_le (length e.values) most_values

-- the object has few enough entries, each of which shows few enough values, and as a field of a
-- frame it has at most `most` bytes
abbrev pub is_small_enough : ℕ → List Entry → Bool
is_small_enough most es = nat_le (length es) most_entries
    && (list_all has_few_values es && nat_le (length (object.spell es)) most)

-- ---- tables

-- an object that may be held: it shows a value, and is as small as a merge must leave it
pub record IsHeld (es : List Entry) : Type 0 where
  pub lawful : IsObject es
  pub shows : has_value es ≡ true
  pub small : is_small_enough most_merged es ≡ true

-- the keys rise strictly, each is lawful, and they are few enough; each object may be held
pub record IsTable (table : Table) : Type 0 where
  pub rising : is_sorted key_cmp table ≡ true
  pub keys : All (λ row. IsKey row.0) table
  pub few : length table ≤ most_keys
  pub held : All (λ row. IsHeld row.1) table
