-- Where a node stands after a history: its table, its images and its standing image have what the
-- object machine has, and it is in the life that the machine says. The invariant of a world cites
-- it. The rule is our own.
use Rattle.std.specs.Prelude.{◌≡◌, ℕ, ◌≤◌, List, length}
use Rattle.meta_types.specs.Name.{Key}
use Rattle.meta_store.specs.Table.{object_at}
use Rattle.past_model.specs.declared.happening.Happening.{Happening}
use Rattle.past_model.specs.Objects.{held_object, image_object, incarnation, last_image, standing_object}
use Rattle.restart_images.specs.Images.{holdings}
use Rattle.restart_images.specs.Keeping.{Keeping}

pub record FollowsHistory (hs : List Happening) (n : ℕ) (node : Keeping) : Type 0 where
  pub holds : (k : Key) → object_at node.table k ≡ held_object hs n k
  pub number : length node.images ≡ last_image hs n
  pub images : (j : ℕ) → j ≤ length node.images → (k : Key)
      → holdings node.images j k ≡ image_object hs n j k
  pub standing : (k : Key) → holdings node.images node.standing k ≡ standing_object hs n k
  pub life : node.incarnation ≡ incarnation hs n
