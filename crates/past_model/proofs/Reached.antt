-- What holds of each set that a past has: of what the nodes know, of what was seen and sent, and of the images.
use Rattle.std.proofs.Common.{◌≡◌, ℕ, ◌+◌, true, false, cond, refl, sym, subst, Option, eqb}
use Rattle.meta_types.specs.Name.{Key}
use Rattle.meta_types.specs.Value.{ValueParts}
use Rattle.past_model.specs.declared.happening.Happening.{Happening}
use Rattle.past_model.specs.declared.happening.Happening.TheVariants.{Wrote, Looked, Sent, Got, Kept, Restarted}
use Rattle.past_model.specs.Sets.{Places, Knowledge, empty, singleton, union, knows_nothing, with_set, union_by_key, set_at}
use Rattle.meta_types.specs.Equal.{key_eq}
use Rattle.past_model.specs.Past.{Past, start, read_of, with_next_image, with_write_known, happens}
use Rattle.past_model.proofs.Keys.{key_eq-true}

-- a property of sets under keys holds of each set that the past has
pub record Reached (Q : Key → Places → Type 0) (s : Past) : Type 0 where
  pub known : (n : ℕ) (k : Key) → Q k (s.known n k)
  pub seen : (p : ℕ) (k : Key) → Q k (s.seen p k)
  pub load : (p : ℕ) (k : Key) → Q k (s.load p k)
  pub images : (n j : ℕ) (k : Key) → Q k (s.images n j k)
  pub standing : (n : ℕ) (k : Key) → Q k (s.standing n k)

-- a property that the empty set has and unions keep
pub record IsGathered (Q : Key → Places → Type 0) : Type 0 where
  pub none : (k : Key) → Q k empty
  pub both : (k : Key) (S T : Places) → Q k S → Q k T → Q k (union S T)

-- ---- the parts of a step

with_set-keeps : (Q : Key → Places → Type 0) (v : Knowledge) (k : Key) (S : Places) → ((l : Key) → Q l (v l)) → Q k S → (l : Key) → Q l (with_set v k S l)
with_set-keeps Q v k S old new l =
    elim (key_eq l k) as (λ b. key_eq l k ≡ b → Q l (cond b S (v l))) [
      | true ↦ λ e. subst (λ m. Q m S) (sym (key_eq-true l k e)) new
      | false ↦ λ e. old l
    ] refl

set_at-keeps : (Q : Key → Places → Type 0) (f : ℕ → Knowledge) (n : ℕ) (v : Knowledge) → ((m : ℕ) (l : Key) → Q l (f m l)) → ((l : Key) → Q l (v l)) → (m : ℕ) (l : Key) → Q l (set_at f n v m l)
set_at-keeps Q f n v old new m l =
    elim (eqb m n) as (λ b. Q l (cond b v (f m) l)) [ true ↦ new l | false ↦ old m l ]

imaged-keeps : (Q : Key → Places → Type 0) (s : Past) (n : ℕ) (k : Key) → Reached Q s → Reached Q (with_next_image n k s)
imaged-keeps Q s n k all =
    let image : (l : Key) → Q l (with_set (s.standing n) k (s.known n k) l) = with_set-keeps Q (s.standing n) k (s.known n k) (all.standing n) (all.known n k) in
    record {
      known = all.known;
      seen = all.seen;
      load = all.load;
      images = λ m j l.
          elim (eqb m n) as (λ b. Q l (cond b (set_at (s.images n) (s.last n + 1) (with_set (s.standing n) k (s.known n k))) (s.images m) j l)) [
            | true ↦ set_at-keeps Q (s.images n) (s.last n + 1) (with_set (s.standing n) k (s.known n k)) (all.images n) image j l
            | false ↦ all.images m j l
          ];
      standing = set_at-keeps Q s.standing n (with_set (s.standing n) k (s.known n k)) all.standing image;
    }

-- what a node knows once it wrote
abbrev pub after_write : Past → ℕ → Key → Option ℕ → Places
after_write s n k r = union (s.known n k) (union (read_of s k r) (singleton s.next))

knows_write-keeps : (Q : Key → Places → Type 0) (s : Past) (n : ℕ) (k : Key) (v : ValueParts) (r : Option ℕ) → Reached Q s → Q k (after_write s n k r) → Reached Q (with_write_known n k v r s)
knows_write-keeps Q s n k v r all new =
    record {
      known = set_at-keeps Q s.known n (with_set (s.known n) k (after_write s n k r)) all.known (with_set-keeps Q (s.known n) k (after_write s n k r) (all.known n) new);
      seen = all.seen;
      load = all.load;
      images = all.images;
      standing = all.standing;
    }

-- a weaker property
pub Reached-weaken : (Q R : Key → Places → Type 0) (s : Past) → ((k : Key) (S : Places) → Q k S → R k S) → Reached Q s → Reached R s
Reached-weaken Q R s weaker all =
    record {
      known = λ n k. weaker k (s.known n k) (all.known n k);
      seen = λ p k. weaker k (s.seen p k) (all.seen p k);
      load = λ p k. weaker k (s.load p k) (all.load p k);
      images = λ n j k. weaker k (s.images n j k) (all.images n j k);
      standing = λ n k. weaker k (s.standing n k) (all.standing n k);
    }

-- ---- a step

-- of a happening that is a write: what its node knows then has the property
abbrev pub NewKept : (Key → Places → Type 0) → Past → Happening → Type 0
NewKept Q s (Wrote n k v r) = Q k (after_write s n k r)
NewKept Q s (Looked n k) = Unit {0}
NewKept Q s (Sent n k) = Unit {0}
NewKept Q s (Got n i) = Unit {0}
NewKept Q s (Kept n k) = Unit {0}
NewKept Q s (Restarted n j) = Unit {0}

pub Reached-happens : (Q : Key → Places → Type 0) → IsGathered Q → (s : Past) (h : Happening) → Reached Q s → NewKept Q s h → Reached Q (happens s h)
Reached-happens Q gathered s (Wrote n k v r) all new =
    let after : Reached Q (with_next_image n k (with_write_known n k v r s)) = imaged-keeps Q (with_write_known n k v r s) n k (knows_write-keeps Q s n k v r all new) in
    record { known = after.known; seen = after.seen; load = after.load; images = after.images; standing = after.standing }
Reached-happens Q gathered s (Looked n k) all new =
    record {
      known = all.known;
      seen = set_at-keeps Q s.seen s.next (with_set knows_nothing k (s.known n k)) all.seen (with_set-keeps Q knows_nothing k (s.known n k) gathered.none (all.known n k));
      load = all.load;
      images = all.images;
      standing = all.standing;
    }
Reached-happens Q gathered s (Sent n k) all new =
    record {
      known = all.known;
      seen = all.seen;
      load = set_at-keeps Q s.load s.next (with_set knows_nothing k (s.known n k)) all.load (with_set-keeps Q knows_nothing k (s.known n k) gathered.none (all.known n k));
      images = all.images;
      standing = all.standing;
    }
Reached-happens Q gathered s (Got n i) all new =
    record {
      known = set_at-keeps Q s.known n (union_by_key (s.known n) (s.load i)) all.known (λ l. gathered.both l (s.known n l) (s.load i l) (all.known n l) (all.load i l));
      seen = all.seen;
      load = all.load;
      images = all.images;
      standing = all.standing;
    }
Reached-happens Q gathered s (Kept n k) all new =
    let after : Reached Q (with_next_image n k s) = imaged-keeps Q s n k all in
    record { known = after.known; seen = after.seen; load = after.load; images = after.images; standing = after.standing }
Reached-happens Q gathered s (Restarted n j) all new =
    record {
      known = set_at-keeps Q s.known n (s.images n j) all.known (all.images n j);
      seen = all.seen;
      load = all.load;
      images = all.images;
      standing = set_at-keeps Q s.standing n (s.images n j) all.standing (all.images n j);
    }

pub Reached-start : (Q : Key → Places → Type 0) → IsGathered Q → Reached Q start
Reached-start Q gathered =
    record {
      known = λ n k. gathered.none k;
      seen = λ p k. gathered.none k;
      load = λ p k. gathered.none k;
      images = λ n j k. gathered.none k;
      standing = λ n k. gathered.none k;
    }
