-- Objects that arise in one history: merges, and their order.
use Rattle.std.proofs.Common.{◌≡◌, ℕ, List, subst}
use Rattle.meta_types.specs.Name.{Key}
use Rattle.dvvset.specs.Object.{Entry}
use Rattle.dvvset.specs.Clock.{sync, join}
use Rattle.past_model.specs.declared.happening.Happening.{Happening}
use Rattle.past_model.specs.Sets.{Places, IsSubset, union}
use Rattle.past_model.specs.Past.{writes}
use Rattle.past_model.specs.Shown.{IsObjectOf}
use Rattle.past_model.specs.Arisen.{IsArisen, IsLeastUpperBound}
use Rattle.past_model.proofs.Orderly.{Orderly}
use Rattle.past_model.proofs.Sound.{orderly}
use Rattle.past_model.proofs.Entries.{one_object}
use Rattle.past_model.proofs.Merging.{sync_object, same_set, sync-comm, sync-assoc, sync-within}
use Rattle.past_model.proofs.Order.{set_from_context, subset_left, subset_right, subset_union}

pub arisen_sync : (hs : List Happening) (k : Key) (a b : List Entry) → IsArisen hs k a → IsArisen hs k b → IsArisen hs k (sync a b)
arisen_sync hs k a b left right = record {
  history = left.history;
  set = union left.set right.set;
  object_of = sync_object (writes hs) k left.set right.set a b (orderly hs left.history) left.object_of right.object_of;
}

pub arisen_comm : (hs : List Happening) (k : Key) (a b : List Entry) → IsArisen hs k a → IsArisen hs k b → sync a b ≡ sync b a
arisen_comm hs k a b left right = sync-comm (writes hs) k left.set right.set a b (orderly hs left.history) left.object_of right.object_of

pub arisen_assoc : (hs : List Happening) (k : Key) (a b c : List Entry) → IsArisen hs k a → IsArisen hs k b → IsArisen hs k c → sync (sync a b) c ≡ sync a (sync b c)
arisen_assoc hs k a b c first second third =
    sync-assoc (writes hs) k first.set second.set third.set a b c (orderly hs first.history) first.object_of second.object_of third.object_of

pub arisen_idem : (hs : List Happening) (k : Key) (a : List Entry) → IsArisen hs k a → sync a a ≡ a
arisen_idem hs k a is = sync-within (writes hs) k is.set is.set a a (orderly hs is.history) is.object_of is.object_of (λ p e. e)

-- an object of two sets: both are the same
pub set_of_object : (hs : List Happening) (k : Key) (S T : Places) (a : List Entry) → Orderly (writes hs) → IsObjectOf (writes hs) k S a → IsObjectOf (writes hs) k T a → (p : ℕ) → S p ≡ T p
set_of_object hs k S T a orderly left right = set_from_context (writes hs) k S T a a orderly.ordered.falling left right (λ i. join a)

subset_from : (S T U V : Places) → ((p : ℕ) → S p ≡ T p) → ((p : ℕ) → U p ≡ V p) → IsSubset S U → IsSubset T V
subset_from S T U V left right sub =
    let P : Places → Places → Type 0 = λ A B. IsSubset A B in
    subst (λ A. P A V) (λ i p. left p i) (subst (λ B. P S B) (λ i p. right p i) sub)

pub least_upper_bound : (hs : List Happening) (k : Key) (a b : List Entry) → IsArisen hs k a → IsArisen hs k b → IsLeastUpperBound hs k a b (sync a b)
least_upper_bound hs k a b left right =
    let o : Orderly (writes hs) = orderly hs left.history in
    let both : IsObjectOf (writes hs) k (union left.set right.set) (sync a b) =
    sync_object (writes hs) k left.set right.set a b o left.object_of right.object_of in
    record {
      first = record {
        lesser = left.set;
        greater = union left.set right.set;
        of_lesser = left.object_of;
        of_greater = both;
        within = subset_left left.set right.set;
      };
      second = record {
        lesser = right.set;
        greater = union left.set right.set;
        of_lesser = right.object_of;
        of_greater = both;
        within = subset_right left.set right.set;
      };
      least = λ c is below also. record {
        lesser = union left.set right.set;
        greater = is.set;
        of_lesser = both;
        of_greater = is.object_of;
        within = subset_union left.set right.set is.set
            (subset_from below.lesser left.set below.greater is.set (set_of_object hs k below.lesser left.set a o below.of_lesser left.object_of)
            (set_of_object hs k below.greater is.set c o below.of_greater is.object_of) below.within)
            (subset_from also.lesser right.set also.greater is.set (set_of_object hs k also.lesser right.set b o also.of_lesser right.object_of)
            (set_of_object hs k also.greater is.set c o also.of_greater is.object_of) also.within);
      };
    }

pub object_from_context : (hs : List Happening) (k : Key) (a b : List Entry) → IsArisen hs k a → IsArisen hs k b → join a ≡ join b → a ≡ b
object_from_context hs k a b left right same =
    one_object (writes hs) k right.set a b
    (same_set (writes hs) k left.set right.set a
    (set_from_context (writes hs) k left.set right.set a b (orderly hs left.history).ordered.falling left.object_of right.object_of same) left.object_of)
    right.object_of
