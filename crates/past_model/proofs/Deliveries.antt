-- Stale deliveries, and values shown.
use Rattle.std.proofs.Common.{◌≡◌, ℕ, true, List, []}
use Rattle.std.specs.Prelude.{◌≢◌, ◌↔◌}
use Rattle.meta_types.specs.Name.{Key}
use Rattle.dvvset.specs.Clock.{descends, join, sync, values_of}
use Rattle.past_model.specs.declared.happening.Happening.{Happening}
use Rattle.past_model.specs.Sets.{IsSubset, union}
use Rattle.past_model.specs.Past.{known, load, writes}
use Rattle.past_model.specs.History.{IsHistory}
use Rattle.past_model.proofs.Placed.{ordered}
use Rattle.past_model.proofs.Sound.{orderly}
use Rattle.past_model.proofs.Merging.{sync_object, sync-within}
use Rattle.past_model.proofs.Order.{descends-subset}
use Rattle.past_model.proofs.Survivor.{object_shows_a_value}
use Rattle.past_model.specs.Objects.{held_object, sent_object}
use Rattle.past_model.proofs.Matching.{matches}

pub stale_exactly : (hs : List Happening) → IsHistory hs → (n i : ℕ) (k : Key) → (descends (join (held_object hs n k)) (join (sent_object hs i k)) ≡ true) ↔ IsSubset (load hs i k) (known hs n k)
stale_exactly hs history n i k =
    descends-subset (writes hs) k (load hs i k) (known hs n k) (sent_object hs i k) (held_object hs n k) (ordered hs).falling ((matches hs history).load i k) ((matches hs history).known n k)

pub stale_unchanged : (hs : List Happening) → IsHistory hs → (n i : ℕ) (k : Key) → descends (join (held_object hs n k)) (join (sent_object hs i k)) ≡ true → sync (held_object hs n k) (sent_object hs i k) ≡ held_object hs n k
stale_unchanged hs history n i k stale =
    sync-within (writes hs) k (known hs n k) (load hs i k) (held_object hs n k) (sent_object hs i k) (orderly hs history) ((matches hs history).known n k) ((matches hs history).load i k)
    ((stale_exactly hs history n i k).0 stale).within

pub held_shows : (hs : List Happening) → IsHistory hs → (n : ℕ) (k : Key) → held_object hs n k ≢ [] → values_of (held_object hs n k) ≢ []
held_shows hs history n k = object_shows_a_value (writes hs) k (known hs n k) (held_object hs n k) (ordered hs) ((matches hs history).known n k)

pub sent_shows : (hs : List Happening) → IsHistory hs → (p : ℕ) (k : Key) → sent_object hs p k ≢ [] → values_of (sent_object hs p k) ≢ []
sent_shows hs history p k = object_shows_a_value (writes hs) k (load hs p k) (sent_object hs p k) (ordered hs) ((matches hs history).load p k)

pub merged_shows : (hs : List Happening) → IsHistory hs → (n p : ℕ) (k : Key) → sync (held_object hs n k) (sent_object hs p k) ≢ [] → values_of (sync (held_object hs n k) (sent_object hs p k)) ≢ []
merged_shows hs history n p k =
    object_shows_a_value (writes hs) k (union (known hs n k) (load hs p k)) (sync (held_object hs n k) (sent_object hs p k)) (ordered hs)
    (sync_object (writes hs) k (known hs n k) (load hs p k) (held_object hs n k) (sent_object hs p k) (orderly hs history) ((matches hs history).known n k) ((matches hs history).load p k))
