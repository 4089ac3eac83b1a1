-- What a call stores in a node's file: one record, or none.
use Rattle.std.specs.Prelude.{◌≡◌, ℕ, List, Option, Some, None, true}
use Rattle.std.specs.FinMap.{find}
use Rattle.meta_types.specs.Name.{Key}
use Rattle.meta_types.specs.Order.{key_cmp}
use Rattle.dvvset.specs.Object.{Entry}
use Rattle.meta_store.specs.Table.{Table}
use Rattle.node_file.specs.declared.record.Record.{Record}
use Rattle.node_file.specs.declared.record.Record.TheVariants.{Object}
use Rattle.node_file.specs.File.{FileState, OpensLike, WithOrWithout, state_with}
use Rattle.node_file.specs.Refusal.{is_too_long_with}

-- ---- the record of what is held under a key

-- of the object that is held there, if one is
abbrev pub object_record : Key → Option (List Entry) → Option Record
object_record key None = None
object_record key (Some object) = Some (Object key object)

-- of what this table holds under the key, if there is a key
abbrev pub record_under : Option Key → Table → Option Record
record_under None held = None
record_under (Some key) held = object_record key (find key_cmp key held)

-- ---- the file with it

-- what it stands for, with the record if there is one
abbrev pub with_stored : Option Record → FileState → FileState
with_stored None s = s
with_stored (Some record_) s = state_with s record_

-- ---- what a crash leaves on the way

-- bytes that open as before, or that have the record too
abbrev pub LeavesRecord : List ℕ → Option Record → List ℕ → Type 0
LeavesRecord content None bytes = OpensLike content bytes
LeavesRecord content (Some record_) bytes = WithOrWithout content record_ bytes

-- ---- why it isn't stored

-- the file would be too long with the record
abbrev pub IsTooLong : ℕ → Option Record → Type 0
IsTooLong gate None = ⊥
IsTooLong gate (Some record_) = is_too_long_with gate record_ ≡ true
