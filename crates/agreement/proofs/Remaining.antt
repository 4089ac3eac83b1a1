-- What holds of all that is left at a place goes on to hold of what the nodes know.
use Rattle.std.proofs.Common.{◌≡◌, ℕ, ◌+◌, ◌<◌, ◌≤◌, true, false, cond, List, sym, ap, refl, subst, arith, Option, eqb}
use Rattle.std.proofs.lemmas.Bool.{eqb-true}
use Rattle.meta_types.specs.Name.{Key}
use Rattle.meta_types.specs.Value.{ValueParts}
use Rattle.meta_types.specs.Equal.{key_eq}
use Rattle.past_model.specs.declared.happening.Happening.{Happening}
use Rattle.past_model.specs.declared.happening.Happening.TheVariants.{Wrote, Looked, Sent, Got, Kept, Restarted}
use Rattle.past_model.specs.Sets.{Places, Knowledge, empty, union, knows_nothing, with_set, union_by_key, set_at}
use Rattle.past_model.specs.Past.{Past, with_next_image, with_write_known, happens}
use Rattle.past_model.proofs.Keys.{key_eq-true}
use Rattle.past_model.proofs.Reached.{after_write}
use Rattle.agreement.specs.Left.{IsAmong}

-- all that is left at a moment after the place has the property: `newest` numbers the nodes' newest images at the place,
-- and C says which contexts are used later
pub record Remaining (P : Places → Type 0) (C : ℕ → Type 0) (k : Key) (newest : ℕ → ℕ) (after : List Happening) (s : Past) : Type 0 where
  pub nodes : (n : ℕ) → P (s.known n k)
  pub images : (n j : ℕ) → IsAmong (Restarted n j) after → P (s.images n j k)
  pub standing : (n j : ℕ) → IsAmong (Restarted n j) after → newest n < j → P (s.standing n k)
  pub objects : (n i : ℕ) → IsAmong (Got n i) after → P (s.load i k)
  pub contexts : (r : ℕ) → C r → P (s.seen r k)
  pub grown : (n : ℕ) → newest n ≤ s.last n

-- a property that the empty set has and unions keep
pub record IsKept (P : Places → Type 0) : Type 0 where
  pub none : P empty
  pub both : (S T : Places) → P S → P T → P (union S T)

-- of a write under the key: what its node knows then has the property
abbrev pub NewHas : (Places → Type 0) → Key → Past → Happening → Type 0
NewHas P k s (Wrote n l v r) = l ≡ k → P (after_write s n l r)
NewHas P k s (Looked n l) = Unit {0}
NewHas P k s (Sent n l) = Unit {0}
NewHas P k s (Got n i) = Unit {0}
NewHas P k s (Kept n l) = Unit {0}
NewHas P k s (Restarted n j) = Unit {0}

-- ---- the parts of a step

under : (P : Places → Type 0) (v : Knowledge) (l : Key) (S : Places) (k : Key) → P (v k) → (l ≡ k → P S) → P (with_set v l S k)
under P v l S k old new =
    elim (key_eq k l) as (λ b. key_eq k l ≡ b → P (cond b S (v k))) [
      | true ↦ λ e. new (sym (key_eq-true k l e))
      | false ↦ λ e. old
    ] refl

at : (P : Places → Type 0) (f : ℕ → Knowledge) (n : ℕ) (v : Knowledge) (m : ℕ) (k : Key) → P (f m k) → (m ≡ n → P (v k)) → P (set_at f n v m k)
at P f n v m k old new =
    elim (eqb m n) as (λ b. eqb m n ≡ b → P (cond b v (f m) k)) [
      | true ↦ λ e. new (eqb-true m n e)
      | false ↦ λ e. old
    ] refl

more_images : (f : ℕ → ℕ) (n m low : ℕ) → low ≤ f m → low ≤ set_at f n (f n + 1) m
more_images f n m low le =
    elim (eqb m n) as (λ b. eqb m n ≡ b → low ≤ cond b (f n + 1) (f m)) [
      | true ↦ λ e. let same : f m ≡ f n = ap f (eqb-true m n e) in omega arith
      | false ↦ λ e. le
    ] refl

image_under : (P : Places → Type 0) (s : Past) (n : ℕ) (l k : Key) → P (s.known n k) → P (s.standing n k) → P (with_set (s.standing n) l (s.known n l) k)
image_under P s n l k known standing = under P (s.standing n) l (s.known n l) k standing (λ e. subst (λ x. P (s.known n x)) (sym e) known)

imaged : (P : Places → Type 0) (C : ℕ → Type 0) (k : Key) (newest : ℕ → ℕ) (after : List Happening) (s : Past) (n : ℕ) (l : Key) → Remaining P C k newest after s → Remaining P C k newest after (with_next_image n l s)
imaged P C k newest after s n l all =
    let image : Knowledge = with_set (s.standing n) l (s.known n l) in
    let new : (m j : ℕ) → IsAmong (Restarted m j) after → newest m < j → m ≡ n → P (with_set (s.standing n) l (s.known n l) k) =
    λ m j among late same. image_under P s n l k (all.nodes n) (subst (λ x. P (s.standing x k)) same (all.standing m j among late)) in
    record {
      nodes = all.nodes;
      images = λ m j among.
          elim (eqb m n) as (λ b. eqb m n ≡ b → P (cond b (set_at (s.images n) (s.last n + 1) (with_set (s.standing n) l (s.known n l))) (s.images m) j k)) [
            | true ↦ λ e.
                let same : m ≡ n = eqb-true m n e in
                at P (s.images n) (s.last n + 1) (with_set (s.standing n) l (s.known n l)) j k
                (subst (λ x. P (s.images x j k)) same (all.images m j among))
                (λ it.
                let low : newest m ≤ s.last m = all.grown m in
                let last : s.last m ≡ s.last n = ap s.last same in
                new m j among (omega arith) same)
            | false ↦ λ e. all.images m j among
          ] refl;
      standing = λ m j among late.
          at P s.standing n (with_set (s.standing n) l (s.known n l)) m k (all.standing m j among late) (new m j among late);
      objects = all.objects;
      contexts = all.contexts;
      grown = λ m. more_images s.last n m (newest m) (all.grown m);
    }

written : (P : Places → Type 0) (C : ℕ → Type 0) (k : Key) (newest : ℕ → ℕ) (after : List Happening) (s : Past) (n : ℕ) (l : Key) (v : ValueParts) (r : Option ℕ) → Remaining P C k newest after s → (l ≡ k → P (after_write s n l r)) → Remaining P C k newest after (with_write_known n l v r s)
written P C k newest after s n l v r all new =
    record {
      nodes = λ m. at P s.known n (with_set (s.known n) l (after_write s n l r)) m k (all.nodes m)
          (λ same. under P (s.known n) l (after_write s n l r) k (all.nodes n) new);
      images = all.images;
      standing = all.standing;
      objects = all.objects;
      contexts = all.contexts;
      grown = all.grown;
    }

-- what a node reads or sends under a key
shown : (P : Places → Type 0) → IsKept P → (s : Past) (n : ℕ) (l k : Key) → P (s.known n k) → P (with_set knows_nothing l (s.known n l) k)
shown P kept s n l k known = under P knows_nothing l (s.known n l) k kept.none (λ e. subst (λ x. P (s.known n x)) (sym e) known)

-- ---- a step

pub Remaining-happens : (P : Places → Type 0) (C : ℕ → Type 0) → IsKept P → (k : Key) (newest : ℕ → ℕ) (after : List Happening) (s : Past) (h : Happening) → IsAmong h after → Remaining P C k newest after s → NewHas P k s h → Remaining P C k newest after (happens s h)
Remaining-happens P C kept k newest after s (Wrote n l v r) among all new =
    let it : Remaining P C k newest after (with_next_image n l (with_write_known n l v r s)) =
    imaged P C k newest after (with_write_known n l v r s) n l (written P C k newest after s n l v r all new) in
    record { nodes = it.nodes; images = it.images; standing = it.standing; objects = it.objects; contexts = it.contexts; grown = it.grown }
Remaining-happens P C kept k newest after s (Looked n l) among all new =
    record {
      nodes = all.nodes;
      images = all.images;
      standing = all.standing;
      objects = all.objects;
      contexts = λ r used. at P s.seen s.next (with_set knows_nothing l (s.known n l)) r k (all.contexts r used) (λ e. shown P kept s n l k (all.nodes n));
      grown = all.grown;
    }
Remaining-happens P C kept k newest after s (Sent n l) among all new =
    record {
      nodes = all.nodes;
      images = all.images;
      standing = all.standing;
      objects = λ m i got. at P s.load s.next (with_set knows_nothing l (s.known n l)) i k (all.objects m i got) (λ e. shown P kept s n l k (all.nodes n));
      contexts = all.contexts;
      grown = all.grown;
    }
Remaining-happens P C kept k newest after s (Got n i) among all new =
    record {
      nodes = λ m. at P s.known n (union_by_key (s.known n) (s.load i)) m k (all.nodes m)
          (λ same. kept.both (s.known n k) (s.load i k) (all.nodes n) (all.objects n i among));
      images = all.images;
      standing = all.standing;
      objects = all.objects;
      contexts = all.contexts;
      grown = all.grown;
    }
Remaining-happens P C kept k newest after s (Kept n l) among all new =
    let it : Remaining P C k newest after (with_next_image n l s) = imaged P C k newest after s n l all in
    record { nodes = it.nodes; images = it.images; standing = it.standing; objects = it.objects; contexts = it.contexts; grown = it.grown }
Remaining-happens P C kept k newest after s (Restarted n j) among all new =
    record {
      nodes = λ m. at P s.known n (s.images n j) m k (all.nodes m) (λ same. all.images n j among);
      images = all.images;
      standing = λ m i again late. at P s.standing n (s.images n j) m k (all.standing m i again late) (λ same. all.images n j among);
      objects = all.objects;
      contexts = all.contexts;
      grown = all.grown;
    }

-- a weaker property
pub Remaining-weaken : (P Q : Places → Type 0) (C : ℕ → Type 0) (k : Key) (newest : ℕ → ℕ) (after : List Happening) (s : Past) → ((S : Places) → P S → Q S) → Remaining P C k newest after s → Remaining Q C k newest after s
Remaining-weaken P Q C k newest after s weaker all =
    record {
      nodes = λ n. weaker (s.known n k) (all.nodes n);
      images = λ n j among. weaker (s.images n j k) (all.images n j among);
      standing = λ n j among late. weaker (s.standing n k) (all.standing n j among late);
      objects = λ n i among. weaker (s.load i k) (all.objects n i among);
      contexts = λ r used. weaker (s.seen r k) (all.contexts r used);
      grown = all.grown;
    }
