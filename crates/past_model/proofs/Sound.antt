-- What holds of the past after every history: each set that it has is closed, and each node knows all that it wrote in
-- the life that it is in.
use Rattle.std.proofs.Common.{◌≡◌, ℕ, ◌+◌, ◌<◌, true, false, cond, List, [], ◌∷◌, ◌++◌, sym, ap, refl, subst, ◌∙◌, ⊎_elim, Option, eqb}
use Rattle.std.specs.Prelude.{◌||◌}
use Rattle.std.proofs.lemmas.Bool.{false≢true, or_left, or_right, eqb-true, eq-eqb}
use Rattle.meta_types.specs.Actor.{writer_number}
use Rattle.meta_types.specs.Name.{Key}
use Rattle.meta_types.specs.Value.{ValueParts}
use Rattle.past_model.specs.declared.happening.Happening.{Happening}
use Rattle.past_model.specs.declared.happening.Happening.TheVariants.{Wrote, Looked, Sent, Got, Kept, Restarted}
use Rattle.past_model.specs.Sets.{Places, Knowledge, with_set, union_by_key, set_at}
use Rattle.meta_types.specs.Equal.{key_eq}
use Rattle.past_model.specs.Past.{Past, Write, In, start, read_of, happens, run, past, writer_of, writes}
use Rattle.past_model.specs.History.{IsHistory, most_restarts}
use Rattle.past_model.specs.Shown.{IsClosed}
use Rattle.past_model.specs.Arisen.{ReachesClosed}
use Rattle.past_model.proofs.Orderly.{Below, Orderly}
use Rattle.past_model.proofs.Keys.{key_eq-true, key_eq-self}
use Rattle.past_model.proofs.Closed.{IsClosed-union}
use Rattle.past_model.proofs.Reached.{Reached, IsGathered, NewKept, after_write, Reached-weaken, Reached-happens, Reached-start}
use Rattle.past_model.proofs.Grown.{closed_empty, closed_more, closed_new}
use Rattle.past_model.proofs.Lives.{Lives, IsLawful, writer_of-node, new_life, Lives-happens, Lives-start}
use Rattle.past_model.proofs.Placed.{Placed, Placed-happens, Placed-start, written, writes-after, read-kept}

abbrev pub closed : List Write → Key → Places → Type 0
closed ws k S = IsClosed ws k S

closed-gathered : (ws : List Write) → IsGathered (closed ws)
closed-gathered ws = record { none = λ k. closed_empty ws k; both = λ k S T left right. IsClosed-union ws k S T left right }

-- the node knows each write of the life that it is in
pub record KnowsOwn (s : Past) (n : ℕ) : Type 0 where
  pub own : (x : Write) → In x s.writes → x.writer ≡ writer_of s n → s.known n x.key x.place ≡ true

pub record Sound (s : Past) : Type 0 where
  pub placed : Placed s
  pub lives : Lives s
  pub reads : (x : Write) → In x s.writes → IsClosed s.writes x.key x.read
  pub reached : Reached (closed s.writes) s
  pub own : (n : ℕ) → KnowsOwn s n

-- ---- each node knows its own writes

-- what was known stays known if the new set has it
with_set-more : (v : Knowledge) (k : Key) (S : Places) (l : Key) (p : ℕ) → (v k p ≡ true → S p ≡ true) → v l p ≡ true → with_set v k S l p ≡ true
with_set-more v k S l p more e =
    elim (key_eq l k) as (λ b. key_eq l k ≡ b → cond b S (v l) p ≡ true) [
      | true ↦ λ f. more (ap (λ m. v m p) (sym (key_eq-true l k f)) ∙ e)
      | false ↦ λ f. e
    ] refl

pub with_set-at : (v : Knowledge) (k : Key) (S : Places) → with_set v k S k ≡ S
with_set-at v k S = ap (λ b. cond b S (v k)) (key_eq-self k)

pub set_at-here : {A : Type 0} (f : ℕ → A) (n : ℕ) (x : A) → set_at f n x n ≡ x
set_at-here f n x = ap (λ b. cond b x (f n)) (eq-eqb n n refl)

own-wrote : (s : Past) (n : ℕ) (k : Key) (v : ValueParts) (r : Option ℕ) → Lives s → ((m : ℕ) → KnowsOwn s m) → (m : ℕ) → KnowsOwn (happens s (Wrote n k v r)) m
own-wrote s n k v r lives own m =
    record {
      own = λ y i w.
          elim (eqb m n) as (λ b. eqb m n ≡ b → cond b (with_set (s.known n) k (after_write s n k r)) (s.known m) y.key y.place ≡ true) [
            | true ↦ λ e. ⊎_elim
                (λ here.
                let P : Write → Type 0 = λ z. with_set (s.known n) k (after_write s n k r) z.key z.place ≡ true in
                let itself : after_write s n k r s.next ≡ true = or_right (s.known n k s.next) (read_of s k r s.next || eqb s.next s.next) (or_right (read_of s k r s.next) (eqb s.next s.next) (eq-eqb s.next s.next refl)) in
                subst P (sym here) (ap (λ S. S s.next) (with_set-at (s.known n) k (after_write s n k r)) ∙ itself))
                (λ later. with_set-more (s.known n) k (after_write s n k r) y.key y.place
                (λ f. or_left (s.known n k y.place) (read_of s k r y.place || eqb y.place s.next) f)
                ((own n).own y later (w ∙ ap (writer_of s) (eqb-true m n e)))) i
            | false ↦ λ e. ⊎_elim
                (λ here. absurd (false≢true (sym e ∙ eq-eqb m n (writer_of-node s lives m n (sym w ∙ ap (λ z. z.writer) here)))))
                (λ later. (own m).own y later w) i
          ] refl;
    }

own-got : (s : Past) (n i : ℕ) → ((m : ℕ) → KnowsOwn s m) → (m : ℕ) → KnowsOwn (happens s (Got n i)) m
own-got s n i own m =
    record {
      own = λ x l w.
          elim (eqb m n) as (λ b. eqb m n ≡ b → cond b (union_by_key (s.known n) (s.load i)) (s.known m) x.key x.place ≡ true) [
            | true ↦ λ e. or_left (s.known n x.key x.place) (s.load i x.key x.place) ((own n).own x l (w ∙ ap (writer_of s) (eqb-true m n e)))
            | false ↦ λ e. (own m).own x l w
          ] refl;
    }

own-restarted : (s : Past) (n j : ℕ) → Lives s → s.restarts n < most_restarts → ((m : ℕ) → KnowsOwn s m) → (m : ℕ) → KnowsOwn (happens s (Restarted n j)) m
own-restarted s n j lives few own m =
    record {
      own = λ x l w.
          elim (eqb m n) as (λ b. eqb m n ≡ b → x.writer ≡ writer_number m (cond b (s.restarts n + 1) (s.restarts m) + 1) → cond b (s.images n j) (s.known m) x.key x.place ≡ true) [
            | true ↦ λ e by. absurd (new_life s n lives few x l (by ∙ ap (λ i. writer_number i (s.restarts n + 1 + 1)) (eqb-true m n e)))
            | false ↦ λ e by. (own m).own x l by
          ] refl w;
    }

own-happens : (s : Past) (h : Happening) → Lives s → IsLawful s h → ((m : ℕ) → KnowsOwn s m) → (m : ℕ) → KnowsOwn (happens s h) m
own-happens s (Wrote n k v r) lives lawful own m = own-wrote s n k v r lives own m
own-happens s (Looked n k) lives lawful own m = record { own = (own m).own }
own-happens s (Sent n k) lives lawful own m = record { own = (own m).own }
own-happens s (Got n i) lives lawful own m = own-got s n i own m
own-happens s (Kept n k) lives lawful own m = record { own = (own m).own }
own-happens s (Restarted n j) lives lawful own m = own-restarted s n j lives (lawful.restart n j refl) own m

-- ---- a step

-- what a write has read is closed
pub read-closed : (s : Past) → Sound s → (k : Key) (r : Option ℕ) → IsClosed s.writes k (read_of s k r)
read-closed s sound k r = read-kept (closed s.writes) (closed-gathered s.writes) s sound.reached k r

-- so is what its node then knows
pub new-closed : (s : Past) → Sound s → (n : ℕ) (k : Key) (v : ValueParts) (r : Option ℕ) → IsClosed (written s n k v r ∷ s.writes) k (after_write s n k r)
new-closed s sound n k v r =
    closed_new s.writes (s.known n k) (written s n k v r) sound.placed.below (sound.reached.known n k) (read-closed s sound k r)
    (λ y m w u. ap (λ l. s.known n l y.place) (sym u) ∙ (sound.own n).own y m w)

new-kept : (s : Past) (h : Happening) → Sound s → NewKept (closed (happens s h).writes) s h
new-kept s (Wrote n k v r) sound = new-closed s sound n k v r
new-kept s (Looked n k) sound = tt
new-kept s (Sent n k) sound = tt
new-kept s (Got n i) sound = tt
new-kept s (Kept n k) sound = tt
new-kept s (Restarted n j) sound = tt

closed-after : (s : Past) (h : Happening) → Sound s → (k : Key) (S : Places) → IsClosed s.writes k S → IsClosed (happens s h).writes k S
closed-after s h sound k S is =
    writes-after (λ ws. IsClosed ws k S) s h is (λ n l v r. closed_more s.writes k S (written s n l v r) sound.placed.below is)

-- what each write of the list has read is closed
pub record ReadsClosed (ws : List Write) : Type 0 where
  pub all : (x : Write) → In x ws → IsClosed ws x.key x.read

reads-more : (x : Write) (ws : List Write) → Below x.place ws → IsClosed ws x.key x.read → ReadsClosed ws → ReadsClosed (x ∷ ws)
reads-more x ws below read reads =
    record {
      all = λ y i. ⊎_elim
          (λ here.
          let P : Write → Type 0 = λ z. IsClosed (x ∷ ws) z.key z.read in
          subst P (sym here) (closed_more ws x.key x.read x below read))
          (λ later. closed_more ws y.key y.read x below (reads.all y later)) i;
    }

pub Sound-happens : (s : Past) (h : Happening) → Sound s → IsLawful s h → Sound (happens s h)
Sound-happens s h sound lawful =
    record {
      placed = Placed-happens s h sound.placed;
      reads = (writes-after ReadsClosed s h (record { all = sound.reads })
          (λ n k v r. reads-more (written s n k v r) s.writes sound.placed.below (read-closed s sound k r) (record { all = sound.reads }))).all;
      reached = Reached-happens (closed (happens s h).writes) (closed-gathered (happens s h).writes) s h
          (Reached-weaken (closed s.writes) (closed (happens s h).writes) s (closed-after s h sound) sound.reached)
          (new-kept s h sound);
      lives = Lives-happens s h sound.lives lawful;
      own = own-happens s h sound.lives lawful sound.own;
    }

pub Sound-start : Sound start
Sound-start =
    record {
      placed = Placed-start;
      lives = Lives-start;
      reads = λ x m. absurd m;
      reached = Reached-start (closed []) (closed-gathered []);
      own = λ n. record { own = λ x m. absurd m };
    }

-- ---- a list of happenings

-- from a past on, a node that restarts has a number left
pub record RestartsFrom (s : Past) (hs : List Happening) : Type 0 where
  pub few : (before after : List Happening) (n j : ℕ) → hs ≡ before ++ Restarted n j ∷ after → (run s before).restarts n < most_restarts

pub from-first : (s : Past) (h : Happening) (hs : List Happening) → RestartsFrom s (h ∷ hs) → IsLawful s h
from-first s h hs from = record { restart = λ n j e. from.few [] hs n j (ap (λ g. g ∷ hs) e) }

pub from-rest : (s : Past) (h : Happening) (hs : List Happening) → RestartsFrom s (h ∷ hs) → RestartsFrom (happens s h) hs
from-rest s h hs from = record { few = λ before after n j e. from.few (h ∷ before) after n j (ap (λ l. h ∷ l) e) }

Sound-run : (s : Past) (hs : List Happening) → Sound s → RestartsFrom s hs → Sound (run s hs)
Sound-run s [] sound from = sound
Sound-run s (h ∷ hs) sound from = Sound-run (happens s h) hs (Sound-happens s h sound (from-first s h hs from)) (from-rest s h hs from)

-- each history is sound
pub sound_past : (hs : List Happening) → IsHistory hs → Sound (past hs)
sound_past hs history = Sound-run start hs Sound-start (record { few = λ before after n j e. (history.fits before after (Restarted n j) e).1 })

pub orderly_sound : (s : Past) → Sound s → Orderly s.writes
orderly_sound s sound = record { ordered = sound.placed.ordered; closed = sound.reads }

pub orderly : (hs : List Happening) → IsHistory hs → Orderly (writes hs)
orderly hs history = orderly_sound (past hs) (sound_past hs history)

pub reaches_closed : (hs : List Happening) → IsHistory hs → (k : Key) → ReachesClosed hs k
reaches_closed hs history k =
    let sound : Sound (past hs) = sound_past hs history in
    record {
      of_nodes = λ n. sound.reached.known n k;
      of_looks = λ p. sound.reached.seen p k;
      of_sendings = λ p. sound.reached.load p k;
      of_images = λ n j. sound.reached.images n j k;
      of_writes = λ x m u. subst (λ l. IsClosed (writes hs) l x.read) u (sound.reads x m);
    }
