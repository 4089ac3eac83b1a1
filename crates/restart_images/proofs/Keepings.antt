-- What is kept of one node, after what a history tells of it.
use Rattle.std.specs.Prelude.{ℕ, ◌+◌, List, [], ◌∷◌, ◌++◌, length, Option}
use Rattle.meta_types.specs.Name.{Key}
use Rattle.meta_types.specs.Value.{ValueParts}
use Rattle.dvvset.specs.Object.{Entry}
use Rattle.meta_store.specs.Context.{Reading}
use Rattle.meta_store.specs.Table.{Table, with_object}
use Rattle.meta_store.specs.Step.{table_after_merge, object_after_put}
use Rattle.restart_images.specs.Keeping.{Keeping, change_at}

abbrev pub new_keeping : Keeping
new_keeping = record { table = []; images = []; standing = 0; incarnation = 1 }

-- the next image: the standing one with what the table has under the key
abbrev pub with_image : Table → Key → Keeping → Keeping
with_image table key node = record {
  table = table;
  images = node.images ++ (record { base = node.standing; change = change_at table key }) ∷ [];
  standing = length node.images + 1;
  incarnation = node.incarnation;
}

-- after a write: its object stands under its key, and the next image has it
abbrev pub with_write : ℕ → Key → ValueParts → Option Reading → Keeping → Keeping
with_write id key value context node = with_image (with_object key (object_after_put node.table id key value context) node.table) key node

-- after keeping what is held under a key: the next image has it
abbrev pub with_kept : Key → Keeping → Keeping
with_kept key node = with_image node.table key node

-- after a delivery
abbrev pub with_merge : Key → List Entry → Keeping → Keeping
with_merge key came node = record node { table = table_after_merge node.table key came }

-- after a restart from the image of that number, with its table: the next life begins
abbrev pub with_restart : Table → ℕ → Keeping → Keeping
with_restart table number node = record { table = table; images = node.images; standing = number; incarnation = node.incarnation + 1 }
