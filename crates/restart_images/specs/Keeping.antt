-- What a history tells of one node: its table, its images, the number of the image that the next
-- one changes, and the life that it is in. The rule is our own.
use Rattle.std.specs.Prelude.{◌≢◌, ℕ, ◌≤◌, List, [], length, Option}
use Rattle.std.specs.FinMap.{find}
use Rattle.meta_types.specs.Name.{Key}
use Rattle.meta_types.specs.Order.{key_cmp}
use Rattle.dvvset.specs.Object.{Entry}
use Rattle.meta_store.specs.Table.{Table, object_at}
use Rattle.restart_images.specs.Images.{Image, change_of, ChangeEarlier, IsTabled, holdings}

pub record Keeping : Type 0 where
  pub table : Table
  pub images : List Image
  pub standing : ℕ
  pub incarnation : ℕ

-- the last life that a node can be in
abbrev pub most_incarnation : ℕ
most_incarnation = 4294967295

-- images can be read and restored; the node has an object under each key under which the standing
-- one has one
pub record IsRestorable (node : Keeping) : Type 0 where
  pub earlier : ChangeEarlier node.images
  pub standing : node.standing ≤ length node.images
  pub tabled : (number : ℕ) → number ≤ length node.images → IsTabled (holdings node.images number)
  pub lives : node.incarnation ≤ most_incarnation
  pub within : (k : Key) → holdings node.images node.standing k ≢ [] → object_at node.table k ≢ []

-- what a key has in a table, as a change of an image
abbrev pub change_at : Table → Key → Option (Key × List Entry)
change_at table key = change_of key (find key_cmp key table)
