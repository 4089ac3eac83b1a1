-- The images of one node as they are kept: a list, oldest first, each with the number of the image
-- that it changes and what it changes there. Image 0 is the empty one and stands in no list. The
-- rule is our own.
use Rattle.std.specs.Prelude.{◌≡◌, ℕ, ◌+◌, ◌<◌, ◌≤◌, List, [], ◌∷◌, length, get_or, Option, Some, None}
use Rattle.meta_types.specs.Name.{Key}
use Rattle.dvvset.specs.Object.{Entry}
use Rattle.past_model.specs.Sets.{set_at}
use Rattle.meta_store.specs.Table.{Table, IsTable, object_at}
pub use Rattle.restart_images.specs.Image.{Image, IsChange, instead}
use Rattle.past_model.specs.Objects.{Holding, holds_nothing, with_held}

-- the change that an object under a key makes, if there is one
abbrev pub change_of : Key → Option (List Entry) → Option (Key × List Entry)
change_of key None = None
change_of key (Some object) = Some (key, object)

-- what there is after a change
abbrev pub changed : Holding → Option (Key × List Entry) → Holding
changed there None = there
changed there (Some change) = with_held there change.0 change.1

-- what the images have, by number: the next one has what its base has, except its change
abbrev pub holdings_from : (ℕ → Holding) → ℕ → List Image → ℕ → Holding
holdings_from there last [] = there
holdings_from there last (image ∷ later) =
    holdings_from (set_at there (last + 1) (changed (there image.base) image.change)) (last + 1)
    later

abbrev pub holdings : List Image → ℕ → Holding
holdings images = holdings_from (λ j. holds_nothing) 0 images

-- each image changes an earlier one
pub record ChangeEarlier (images : List Image) : Type 0 where
  pub earlier : (at : ℕ) (d : Image) → at < length images → (get_or images at d).base ≤ at

-- a table has just these objects
pub record IsTabled (there : Holding) : Type 0 where
  pub table : Table
  pub is_table : IsTable table
  pub same : (k : Key) → object_at table k ≡ there k
