-- A merge is the object of the union of two sets.
use Rattle.std.proofs.Common.{◌≡◌, ℕ, Bool, true, false, List, sym, refl, subst, ◌∙◌}
use Rattle.std.specs.Prelude.{◌||◌}
use Rattle.meta_types.specs.Name.{Key}
use Rattle.dvvset.specs.Object.{Entry}
use Rattle.dvvset.specs.Clock.{sync}
use Rattle.dvvset.proofs.Writers.{sync_at, entry_of-sync, Rises-sync}
use Rattle.past_model.specs.Sets.{Places, union}
use Rattle.past_model.specs.Past.{Write}
use Rattle.past_model.specs.Shown.{IsObjectOf}
use Rattle.past_model.proofs.Orderly.{Orderly}
use Rattle.past_model.proofs.Closed.{IsClosed-union, entry_in-union}
use Rattle.past_model.proofs.Entries.{HasEntries, entries_of_object, object_from_entries, one_object}

pub sync_object : (ws : List Write) (k : Key) (S T : Places) (a b : List Entry) → Orderly ws → IsObjectOf ws k S a → IsObjectOf ws k T b → IsObjectOf ws k (union S T) (sync a b)
sync_object ws k S T a b orderly left right =
    let first : HasEntries ws S a = entries_of_object ws k S a left in
    let second : HasEntries ws T b = entries_of_object ws k T b right in
    object_from_entries ws k (union S T) (sync a b) (IsClosed-union ws k S T left.closed right.closed)
    (record {
      rises = Rises-sync a b 0 first.rises second.rises;
      entries = λ w.
          entry_of-sync a b 0 w first.rises second.rises
          ∙ (λ i. sync_at (first.entries w i) (second.entries w i))
          ∙ entry_in-union ws k S T w orderly left.closed right.closed;
    })

-- sets with the same places have the same objects
pub same_set : (ws : List Write) (k : Key) (S T : Places) (a : List Entry) → ((p : ℕ) → S p ≡ T p) → IsObjectOf ws k S a → IsObjectOf ws k T a
same_set ws k S T a same object =
    let P : Places → Type 0 = λ U. IsObjectOf ws k U a in
    subst P (λ i p. same p i) object

or_comm : (a b : Bool) → (a || b) ≡ (b || a)
or_comm true true = refl
or_comm true false = refl
or_comm false true = refl
or_comm false false = refl

or_assoc : (a b c : Bool) → ((a || b) || c) ≡ (a || (b || c))
or_assoc true b c = refl
or_assoc false b c = refl

-- a set with one within it is their union
or_within : (a b : Bool) → (b ≡ true → a ≡ true) → (a || b) ≡ a
or_within true b sub = refl
or_within false true sub = sym (sub refl)
or_within false false sub = refl

pub sync-comm : (ws : List Write) (k : Key) (S T : Places) (a b : List Entry) → Orderly ws → IsObjectOf ws k S a → IsObjectOf ws k T b → sync a b ≡ sync b a
sync-comm ws k S T a b orderly left right =
    one_object ws k (union S T) (sync a b) (sync b a) (sync_object ws k S T a b orderly left right)
    (same_set ws k (union T S) (union S T) (sync b a) (λ p. or_comm (T p) (S p)) (sync_object ws k T S b a orderly right left))

pub sync-assoc : (ws : List Write) (k : Key) (S T U : Places) (a b c : List Entry) → Orderly ws → IsObjectOf ws k S a → IsObjectOf ws k T b → IsObjectOf ws k U c → sync (sync a b) c ≡ sync a (sync b c)
sync-assoc ws k S T U a b c orderly oa ob oc =
    one_object ws k (union (union S T) U) (sync (sync a b) c) (sync a (sync b c))
    (sync_object ws k (union S T) U (sync a b) c orderly (sync_object ws k S T a b orderly oa ob) oc)
    (same_set ws k (union S (union T U)) (union (union S T) U) (sync a (sync b c)) (λ p. sym (or_assoc (S p) (T p) (U p)))
    (sync_object ws k S (union T U) a (sync b c) orderly oa (sync_object ws k T U b c orderly ob oc)))

-- merging what is within changes nothing
pub sync-within : (ws : List Write) (k : Key) (S T : Places) (a b : List Entry) → Orderly ws → IsObjectOf ws k S a → IsObjectOf ws k T b → ((p : ℕ) → T p ≡ true → S p ≡ true) → sync a b ≡ a
sync-within ws k S T a b orderly left right sub =
    one_object ws k S (sync a b) a
    (same_set ws k (union S T) S (sync a b) (λ p. or_within (S p) (T p) (sub p)) (sync_object ws k S T a b orderly left right)) left
