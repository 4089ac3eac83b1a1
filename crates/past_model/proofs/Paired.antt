-- What holds of each set that a past has, and the object that the machine has in its place.
use Rattle.std.proofs.Common.{◌≡◌, ℕ, ◌+◌, true, false, cond, List, [], refl, sym, ap, subst, Option, Some, None, eqb}
use Rattle.meta_types.specs.Name.{Key}
use Rattle.meta_types.specs.Value.{ValueParts}
use Rattle.dvvset.specs.Object.{Entry}
use Rattle.dvvset.specs.Clock.{join, sync, update}
use Rattle.past_model.specs.declared.happening.Happening.{Happening}
use Rattle.past_model.specs.declared.happening.Happening.TheVariants.{Wrote, Looked, Sent, Got, Kept, Restarted}
use Rattle.past_model.specs.Sets.{Places, Knowledge, empty, union, knows_nothing, with_set, union_by_key, set_at}
use Rattle.meta_types.specs.Equal.{key_eq}
use Rattle.past_model.specs.Past.{Past, start, read_of, with_next_image, with_write_known, happens}
use Rattle.past_model.proofs.Keys.{key_eq-true}
use Rattle.past_model.proofs.Reached.{after_write}
use Rattle.past_model.specs.Objects.{Objects, Holding, with_held, sync_by_key}
use Rattle.past_model.specs.Objects as machine

-- a relation of sets and objects under keys holds of each set that the past has and the object there
pub record Paired (Q : Key → Places → List Entry → Type 0) (s : Past) (o : Objects) : Type 0 where
  pub next : o.next ≡ s.next
  pub last : o.last ≡ s.last
  pub restarts : o.restarts ≡ s.restarts
  pub known : (n : ℕ) (k : Key) → Q k (s.known n k) (o.held n k)
  pub seen : (p : ℕ) (k : Key) → Q k (s.seen p k) (o.seen p k)
  pub load : (p : ℕ) (k : Key) → Q k (s.load p k) (o.load p k)
  pub images : (n j : ℕ) (k : Key) → Q k (s.images n j k) (o.images n j k)
  pub standing : (n : ℕ) (k : Key) → Q k (s.standing n k) (o.standing n k)

-- a relation that the empty set has with the absent object, and unions with merges
pub record IsMerging (Q : Key → Places → List Entry → Type 0) : Type 0 where
  pub none : (k : Key) → Q k empty []
  pub both : (k : Key) (S T : Places) (a b : List Entry) → Q k S a → Q k T b → Q k (union S T) (sync a b)

-- ---- the parts of a step

with_set-pairs : (Q : Key → Places → List Entry → Type 0) (v : Knowledge) (t : Holding) (k : Key) (S : Places) (a : List Entry) → ((l : Key) → Q l (v l) (t l)) → Q k S a → (l : Key) → Q l (with_set v k S l) (with_held t k a l)
with_set-pairs Q v t k S a old new l =
    elim (key_eq l k) as (λ b. key_eq l k ≡ b → Q l (cond b S (v l)) (cond b a (t l))) [
      | true ↦ λ e. subst (λ m. Q m S a) (sym (key_eq-true l k e)) new
      | false ↦ λ e. old l
    ] refl

set_at-pairs : (Q : Key → Places → List Entry → Type 0) (f : ℕ → Knowledge) (g : ℕ → Holding) (n : ℕ) (v : Knowledge) (t : Holding)
    → ((m : ℕ) (l : Key) → Q l (f m l) (g m l)) → ((l : Key) → Q l (v l) (t l)) → (m : ℕ) (l : Key) → Q l (set_at f n v m l) (set_at g n t m l)
set_at-pairs Q f g n v t old new m l =
    elim (eqb m n) as (λ b. Q l (cond b v (f m) l) (cond b t (g m) l)) [ true ↦ new l | false ↦ old m l ]

-- the same at a number that both machines have
set_at-pairs-at : (Q : Key → Places → List Entry → Type 0) (f : ℕ → Knowledge) (g : ℕ → Holding) (n i : ℕ) (v : Knowledge) (t : Holding)
    → i ≡ n → ((m : ℕ) (l : Key) → Q l (f m l) (g m l)) → ((l : Key) → Q l (v l) (t l)) → (m : ℕ) (l : Key) → Q l (set_at f n v m l) (set_at g i t m l)
set_at-pairs-at Q f g n i v t same old new m l =
    subst (λ c. Q l (set_at f n v m l) (set_at g c t m l)) (sym same) (set_at-pairs Q f g n v t old new m l)

imaged-pairs : (Q : Key → Places → List Entry → Type 0) (s : Past) (o : Objects) (n : ℕ) (k : Key) → Paired Q s o → Paired Q (with_next_image n k s) (machine.with_next_held_image n k o)
imaged-pairs Q s o n k all =
    let image : (l : Key) → Q l (with_set (s.standing n) k (s.known n k) l) (with_held (o.standing n) k (o.held n k) l) =
    with_set-pairs Q (s.standing n) (o.standing n) k (s.known n k) (o.held n k) (all.standing n) (all.known n k) in
    record {
      next = all.next;
      last = λ i. set_at (all.last i) n (all.last i n + 1);
      restarts = all.restarts;
      known = all.known;
      seen = all.seen;
      load = all.load;
      images = λ m j l.
          elim (eqb m n) as (λ b. Q l (cond b (set_at (s.images n) (s.last n + 1) (with_set (s.standing n) k (s.known n k))) (s.images m) j l)
          (cond b (set_at (o.images n) (o.last n + 1) (with_held (o.standing n) k (o.held n k))) (o.images m) j l)) [
            | true ↦ set_at-pairs-at Q (s.images n) (o.images n) (s.last n + 1) (o.last n + 1) (with_set (s.standing n) k (s.known n k)) (with_held (o.standing n) k (o.held n k))
                (λ i. all.last i n + 1) (all.images n) image j l
            | false ↦ all.images m j l
          ];
      standing = set_at-pairs Q s.standing o.standing n (with_set (s.standing n) k (s.known n k)) (with_held (o.standing n) k (o.held n k)) all.standing image;
    }

-- what a node holds once it wrote
abbrev pub held_after_write : Objects → ℕ → Key → ValueParts → Option ℕ → List Entry
held_after_write o n k v r = update (join (machine.read_in_objects o k r)) (o.held n k) (machine.writer_in_objects o n) v

knows_write-pairs : (Q : Key → Places → List Entry → Type 0) (s : Past) (o : Objects) (n : ℕ) (k : Key) (v : ValueParts) (r : Option ℕ)
    → Paired Q s o → Q k (after_write s n k r) (held_after_write o n k v r) → Paired Q (with_write_known n k v r s) (machine.holds_write n k v r o)
knows_write-pairs Q s o n k v r all new =
    record {
      next = all.next;
      last = all.last;
      restarts = all.restarts;
      known = set_at-pairs Q s.known o.held n (with_set (s.known n) k (after_write s n k r)) (with_held (o.held n) k (held_after_write o n k v r)) all.known
          (with_set-pairs Q (s.known n) (o.held n) k (after_write s n k r) (held_after_write o n k v r) (all.known n) new);
      seen = all.seen;
      load = all.load;
      images = all.images;
      standing = all.standing;
    }

-- a weaker relation
pub Paired-weaken : (Q R : Key → Places → List Entry → Type 0) (s : Past) (o : Objects) → ((k : Key) (S : Places) (a : List Entry) → Q k S a → R k S a) → Paired Q s o → Paired R s o
Paired-weaken Q R s o weaker all =
    record {
      next = all.next;
      last = all.last;
      restarts = all.restarts;
      known = λ n k. weaker k (s.known n k) (o.held n k) (all.known n k);
      seen = λ p k. weaker k (s.seen p k) (o.seen p k) (all.seen p k);
      load = λ p k. weaker k (s.load p k) (o.load p k) (all.load p k);
      images = λ n j k. weaker k (s.images n j k) (o.images n j k) (all.images n j k);
      standing = λ n k. weaker k (s.standing n k) (o.standing n k) (all.standing n k);
    }

-- what a write has read
pub read-paired : (Q : Key → Places → List Entry → Type 0) → IsMerging Q → (s : Past) (o : Objects) → Paired Q s o → (k : Key) (r : Option ℕ) → Q k (read_of s k r) (machine.read_in_objects o k r)
read-paired Q merging s o all k None = merging.none k
read-paired Q merging s o all k (Some p) = all.seen p k

-- ---- a step

-- of a happening that is a write: the relation holds of what its node knows and holds then
abbrev pub NewPaired : (Key → Places → List Entry → Type 0) → Past → Objects → Happening → Type 0
NewPaired Q s o (Wrote n k v r) = Q k (after_write s n k r) (held_after_write o n k v r)
NewPaired Q s o (Looked n k) = Unit {0}
NewPaired Q s o (Sent n k) = Unit {0}
NewPaired Q s o (Got n i) = Unit {0}
NewPaired Q s o (Kept n k) = Unit {0}
NewPaired Q s o (Restarted n j) = Unit {0}

pub Paired-happens : (Q : Key → Places → List Entry → Type 0) → IsMerging Q → (s : Past) (o : Objects) (h : Happening) → Paired Q s o → NewPaired Q s o h → Paired Q (happens s h) (machine.next_objects o h)
Paired-happens Q merging s o (Wrote n k v r) all new =
    let after : Paired Q (with_next_image n k (with_write_known n k v r s)) (machine.with_next_held_image n k (machine.holds_write n k v r o)) =
    imaged-pairs Q (with_write_known n k v r s) (machine.holds_write n k v r o) n k (knows_write-pairs Q s o n k v r all new) in
    record {
      next = ap (λ p. p + 1) all.next;
      last = after.last;
      restarts = after.restarts;
      known = after.known;
      seen = after.seen;
      load = after.load;
      images = after.images;
      standing = after.standing;
    }
Paired-happens Q merging s o (Looked n k) all new =
    record {
      next = ap (λ p. p + 1) all.next;
      last = all.last;
      restarts = all.restarts;
      known = all.known;
      seen = set_at-pairs-at Q s.seen o.seen s.next o.next (with_set knows_nothing k (s.known n k)) (with_held machine.holds_nothing k (o.held n k)) all.next all.seen
          (with_set-pairs Q knows_nothing machine.holds_nothing k (s.known n k) (o.held n k) merging.none (all.known n k));
      load = all.load;
      images = all.images;
      standing = all.standing;
    }
Paired-happens Q merging s o (Sent n k) all new =
    record {
      next = ap (λ p. p + 1) all.next;
      last = all.last;
      restarts = all.restarts;
      known = all.known;
      seen = all.seen;
      load = set_at-pairs-at Q s.load o.load s.next o.next (with_set knows_nothing k (s.known n k)) (with_held machine.holds_nothing k (o.held n k)) all.next all.load
          (with_set-pairs Q knows_nothing machine.holds_nothing k (s.known n k) (o.held n k) merging.none (all.known n k));
      images = all.images;
      standing = all.standing;
    }
Paired-happens Q merging s o (Got n i) all new =
    record {
      next = ap (λ p. p + 1) all.next;
      last = all.last;
      restarts = all.restarts;
      known = set_at-pairs Q s.known o.held n (union_by_key (s.known n) (s.load i)) (sync_by_key (o.held n) (o.load i)) all.known
          (λ l. merging.both l (s.known n l) (s.load i l) (o.held n l) (o.load i l) (all.known n l) (all.load i l));
      seen = all.seen;
      load = all.load;
      images = all.images;
      standing = all.standing;
    }
Paired-happens Q merging s o (Kept n k) all new =
    let after : Paired Q (with_next_image n k s) (machine.with_next_held_image n k o) = imaged-pairs Q s o n k all in
    record {
      next = ap (λ p. p + 1) all.next;
      last = after.last;
      restarts = after.restarts;
      known = after.known;
      seen = after.seen;
      load = after.load;
      images = after.images;
      standing = after.standing;
    }
Paired-happens Q merging s o (Restarted n j) all new =
    record {
      next = ap (λ p. p + 1) all.next;
      last = all.last;
      restarts = λ i. set_at (all.restarts i) n (all.restarts i n + 1);
      known = set_at-pairs Q s.known o.held n (s.images n j) (o.images n j) all.known (all.images n j);
      seen = all.seen;
      load = all.load;
      images = all.images;
      standing = set_at-pairs Q s.standing o.standing n (s.images n j) (o.images n j) all.standing (all.images n j);
    }

pub Paired-start : (Q : Key → Places → List Entry → Type 0) → IsMerging Q → Paired Q start machine.first_objects
Paired-start Q merging =
    record {
      next = refl;
      last = refl;
      restarts = refl;
      known = λ n k. merging.none k;
      seen = λ p k. merging.none k;
      load = λ p k. merging.none k;
      images = λ n j k. merging.none k;
      standing = λ n k. merging.none k;
    }
