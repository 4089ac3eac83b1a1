-- What a write and a merge make of a table, and the refusals of both in their order. The rule is
-- our own.
use Rattle.std.specs.Prelude.{ℕ, ◌==◌, nat_le, max, if◌then◌else◌, List, [], ◌∷◌, length, Bool, false, not, ◌&&◌, Option, Some, None, is_none}
use Rattle.std.specs.FinMap.{find}
use Rattle.meta_types.specs.Name.{Key}
use Rattle.meta_types.specs.Value.{ValueParts}
use Rattle.meta_types.specs.Order.{key_cmp}
use Rattle.meta_types.specs.First.{first_that_applies}
use Rattle.dvvset.specs.Object.{Counter, Entry}
use Rattle.dvvset.specs.Clock.{count_for, join, sync, update}
use Rattle.dvvset.specs.Writer.{count_of}
use Rattle.frame_fields.specs.Field.{has_value, greatest_count}
use Rattle.meta_types.specs.Equal.{key_eq}
use Rattle.meta_store.specs.Table.{Table, object_at, with_object, is_stale, is_small_enough, most_keys, most_written, most_merged}
use Rattle.meta_store.specs.Context.{Reading, vector_read}
use Rattle.meta_store.specs.declared.fault.StoreFault.{StoreFault}
use Rattle.meta_store.specs.declared.fault.StoreFault.TheVariants.{CounterSpent, BadEntries, StoreFull, WrongKey, ObjectTooLarge}
use Rattle.meta_store.specs.declared.merge.Merged.{Merged}
use Rattle.meta_store.specs.declared.merge.Merged.TheVariants.{Fresh, Stale}

-- the key isn't held, and there is no room for one more
abbrev pub is_full_for : Table → Key → Bool
is_full_for table key = is_none (find key_cmp key table) && nat_le most_keys (length table)

-- ---- a write

-- the object that a write leaves under its key, whether or not the key is held
abbrev pub object_after_put : Table → ℕ → Key → ValueParts → Option Reading → List Entry
object_after_put table id key value context =
    update (vector_read context) (object_at table key) id value

-- there is a context, and it is of another key
abbrev pub is_of_another_key : Key → Option Reading → Bool
is_of_another_key key None = false
is_of_another_key key (Some context) = not (key_eq context.key key)

-- the writer's counter, in what was read or in what is held, is the greatest that there is
abbrev pub is_spent : Table → ℕ → Key → Option Reading → Bool
is_spent table id key context =
    max (count_for (vector_read context) id) (count_of (object_at table key) id) == greatest_count

-- the refusals of a write that is of the key of its context, if there is room, by the object that
-- is held
abbrev pub refusal_of_update : List Counter → List Entry → ℕ → ValueParts → Option StoreFault
refusal_of_update read held id value = first_that_applies (
    (max (count_for read id) (count_of held id) == greatest_count, CounterSpent)
    ∷ (not (is_small_enough most_written (update read held id value)), ObjectTooLarge)
    ∷ [])

abbrev pub refusal_of_put : Table → ℕ → Key → ValueParts → Option Reading → Option StoreFault
refusal_of_put table id key value context = first_that_applies (
    (is_of_another_key key context, WrongKey)
    ∷ (is_full_for table key, StoreFull)
    ∷ (is_spent table id key context, CounterSpent)
    ∷ (
      not (is_small_enough most_written (object_after_put table id key value context)),
      ObjectTooLarge,
    )
    ∷ [])

-- ---- a merge

-- the merge of what is held under the key and what came
abbrev pub merge_of : Table → Key → List Entry → List Entry
merge_of table key came = sync (object_at table key) came

-- what a merge holds in place of the old, unless what came is stale
abbrev pub merged_if_fresh : Table → Key → List Entry → Option (List Entry)
merged_if_fresh table key came =
    if is_stale table key (join came) then None else Some (merge_of table key came)

-- what stands under the key after a merge; what came is stale if its vector is, and then nothing
-- changes
abbrev pub object_after_merge : Table → Key → List Entry → List Entry
object_after_merge table key came =
    if is_stale table key (join came) then object_at table key else merge_of table key came

abbrev pub table_after_merge : Table → Key → List Entry → Table
table_after_merge table key came =
    if is_stale table key (join came)
    then table
    else with_object key (merge_of table key came) table

abbrev pub answer_of_merge : Table → Key → List Entry → Merged
answer_of_merge table key came = if is_stale table key (join came) then Stale else Fresh

-- the refusals of a merge of what is held under a key and what came, which isn't stale there
abbrev pub refusal_of_sync : List Entry → List Entry → Bool → Option StoreFault
refusal_of_sync held came is_full = first_that_applies (
    (not (has_value (sync held came)), BadEntries)
    ∷ (is_full, StoreFull)
    ∷ (not (is_small_enough most_merged (sync held came)), ObjectTooLarge)
    ∷ [])

abbrev pub refusal_of_merge : Table → Key → List Entry → Option StoreFault
refusal_of_merge table key came =
    if is_stale table key (join came)
    then None
    else refusal_of_sync (object_at table key) came (is_full_for table key)
