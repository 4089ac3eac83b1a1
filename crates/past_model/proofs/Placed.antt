-- What holds of places after every list of happenings.
use Rattle.std.proofs.Common.{◌≡◌, ℕ, ◌+◌, ◌<◌, true, List, [], ◌∷◌, sym, ap, ◌∙◌, arith, ⊎_elim, Option, Some, None, eqb}
use Rattle.std.specs.Prelude.{◌||◌}
use Rattle.std.proofs.lemmas.Bool.{false≢true, or_cases, eqb-true}
use Rattle.meta_types.specs.Name.{Key}
use Rattle.meta_types.specs.Value.{ValueParts}
use Rattle.past_model.specs.declared.happening.Happening.{Happening}
use Rattle.past_model.specs.declared.happening.Happening.TheVariants.{Wrote, Looked, Sent, Got, Kept, Restarted}
use Rattle.past_model.specs.Sets.{Places}
use Rattle.past_model.specs.Past.{Past, Write, start, read_of, happens, run, writer_of, writes}
use Rattle.past_model.proofs.Orderly.{Below, Ordered}
use Rattle.past_model.proofs.Reached.{Reached, IsGathered, NewKept, Reached-weaken, Reached-happens, Reached-start}

-- all places of the set are below the bound
pub record Under (bound : ℕ) (S : Places) : Type 0 where
  pub all : (p : ℕ) → S p ≡ true → p < bound

abbrev pub under : ℕ → Key → Places → Type 0
under bound k S = Under bound S

under-gathered : (bound : ℕ) → IsGathered (under bound)
under-gathered bound =
    record {
      none = λ k. record { all = λ p e. absurd (false≢true e) };
      both = λ k S T left right. record { all = λ p e. ⊎_elim (λ h. left.all p h) (λ h. right.all p h) (or_cases (S p) (T p) e) };
    }

-- the write that a Wrote makes
abbrev pub written : Past → ℕ → Key → ValueParts → Option ℕ → Write
written s n k v r = record { place = s.next; writer = writer_of s n; key = k; value = v; read = read_of s k r }

-- a happening makes at most one write
pub writes-after : (P : List Write → Type 0) (s : Past) (h : Happening) → P s.writes → ((n : ℕ) (k : Key) (v : ValueParts) (r : Option ℕ) → P (written s n k v r ∷ s.writes)) → P (happens s h).writes
writes-after P s (Wrote n k v r) old new = new n k v r
writes-after P s (Looked n k) old new = old
writes-after P s (Sent n k) old new = old
writes-after P s (Got n i) old new = old
writes-after P s (Kept n k) old new = old
writes-after P s (Restarted n j) old new = old

-- what a write has read has what all sets have
pub read-kept : (Q : Key → Places → Type 0) → IsGathered Q → (s : Past) → Reached Q s → (k : Key) (r : Option ℕ) → Q k (read_of s k r)
read-kept Q gathered s all k None = gathered.none k
read-kept Q gathered s all k (Some p) = all.seen p k

-- of each past: the writes are ordered, and all places are below the next
pub record Placed (s : Past) : Type 0 where
  pub ordered : Ordered s.writes
  pub below : Below s.next s.writes
  pub reached : Reached (under s.next) s

below-cons : (bound : ℕ) (x : Write) (ws : List Write) → x.place < bound → Below bound ws → Below bound (x ∷ ws)
below-cons bound x ws lt below =
    record { all = λ y m. ⊎_elim (λ here. let at : y.place ≡ x.place = ap (λ z. z.place) here in omega arith) (λ later. below.all y later) m }

below-next : (ws : List Write) (next : ℕ) → Below next ws → Below (next + 1) ws
below-next ws next below = record { all = λ x m. let low : x.place < next = below.all x m in omega arith }

Ordered-cons : (x : Write) (ws : List Write) → Below x.place ws → Under x.place x.read → Ordered ws → Ordered (x ∷ ws)
Ordered-cons x ws below read ordered =
    record {
      falling = (below, ordered.falling);
      causal = λ y m p e. ⊎_elim
          (λ here.
          let low : p < x.place = read.all p (ap (λ z. z.read p) (sym here) ∙ e) in
          let at : y.place ≡ x.place = ap (λ z. z.place) here in
          omega arith)
          (λ later. ordered.causal y later p e) m;
    }

under-new : (s : Past) (h : Happening) → Reached (under s.next) s → NewKept (under (s.next + 1)) s h
under-new s (Wrote n k v r) all =
    record {
      all = λ p e. ⊎_elim
          (λ f. let low : p < s.next = (all.known n k).all p f in omega arith)
          (λ f. ⊎_elim
          (λ g. let low : p < s.next = (read-kept (under s.next) (under-gathered s.next) s all k r).all p g in omega arith)
          (λ g. let at : p ≡ s.next = eqb-true p s.next g in omega arith)
          (or_cases (read_of s k r p) (eqb p s.next) f))
          (or_cases (s.known n k p) (read_of s k r p || eqb p s.next) e);
    }
under-new s (Looked n k) all = tt
under-new s (Sent n k) all = tt
under-new s (Got n i) all = tt
under-new s (Kept n k) all = tt
under-new s (Restarted n j) all = tt

pub Placed-happens : (s : Past) (h : Happening) → Placed s → Placed (happens s h)
Placed-happens s h placed =
    let weaker : (k : Key) (S : Places) → Under s.next S → Under (s.next + 1) S = λ k S is. record { all = λ p e. let low : p < s.next = is.all p e in omega arith } in
    record {
      ordered = writes-after Ordered s h placed.ordered
          (λ n k v r. Ordered-cons (written s n k v r) s.writes placed.below (read-kept (under s.next) (under-gathered s.next) s placed.reached k r) placed.ordered);
      below = writes-after (Below (s.next + 1)) s h (below-next s.writes s.next placed.below)
          (λ n k v r. below-cons (s.next + 1) (written s n k v r) s.writes (omega arith) (below-next s.writes s.next placed.below));
      reached = Reached-happens (under (s.next + 1)) (under-gathered (s.next + 1)) s h (Reached-weaken (under s.next) (under (s.next + 1)) s weaker placed.reached) (under-new s h placed.reached);
    }

pub Placed-start : Placed start
Placed-start =
    record {
      ordered = record { falling = tt; causal = λ x m. absurd m };
      below = record { all = λ x m. absurd m };
      reached = Reached-start (under 0) (under-gathered 0);
    }

pub Placed-run : (s : Past) (hs : List Happening) → Placed s → Placed (run s hs)
Placed-run s [] placed = placed
Placed-run s (h ∷ hs) placed = Placed-run (happens s h) hs (Placed-happens s h placed)

-- the writes of every list of happenings are ordered
pub ordered : (hs : List Happening) → Ordered (writes hs)
ordered hs = (Placed-run start hs Placed-start).ordered
