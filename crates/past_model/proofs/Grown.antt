-- Closed sets as writes are added.
use Rattle.std.proofs.Common.{◌≡◌, ℕ, ◌<◌, true, List, ◌∷◌, sym, ap, refl, ◌∙◌, arith, ⊎_elim, inl, inr, eqb}
use Rattle.std.specs.Prelude.{◌||◌}
use Rattle.std.proofs.lemmas.Bool.{false≢true, or_left, or_right, or_cases, eqb-true}
use Rattle.meta_types.specs.Name.{Key}
use Rattle.past_model.specs.Sets.{Places, empty, singleton, union}
use Rattle.past_model.specs.Past.{Write, In}
use Rattle.past_model.specs.Shown.{IsClosed}
use Rattle.past_model.proofs.Orderly.{Below}

pub closed_empty : (ws : List Write) (k : Key) → IsClosed ws k empty
closed_empty ws k = record { of_writes = λ p e. absurd (false≢true e); reads = λ x m e. absurd (false≢true e); earlier = λ x y m n e. absurd (false≢true e) }

-- a closed set has places of the writes alone
pub closed_below : (ws : List Write) (k : Key) (S : Places) (bound : ℕ) → Below bound ws → IsClosed ws k S → (p : ℕ) → S p ≡ true → p < bound
closed_below ws k S bound below closed p e =
    let found : (y : Write) × (In y ws × ((y.place ≡ p) × (y.key ≡ k))) = closed.of_writes p e in
    let low : found.0.place < bound = below.all found.0 found.1.0 in
    let at : found.0.place ≡ p = found.1.1.0 in
    omega arith

-- a closed set stays closed as a write is made that is not in it
pub closed_more : (ws : List Write) (k : Key) (S : Places) (x : Write) → Below x.place ws → IsClosed ws k S → IsClosed (x ∷ ws) k S
closed_more ws k S x below closed =
    let old : (p : ℕ) → S p ≡ true → p < x.place = closed_below ws k S x.place below closed in
    record {
      of_writes = λ p e.
          let found : (y : Write) × (In y ws × ((y.place ≡ p) × (y.key ≡ k))) = closed.of_writes p e in
          (found.0, (inr found.1.0, found.1.1));
      reads = λ y m e p r. ⊎_elim
          (λ here. let low : y.place < x.place = old y.place e in let top : y.place ≡ x.place = ap (λ z. z.place) here in absurd (omega arith))
          (λ later. closed.reads y later e p r) m;
      earlier = λ y z m n e w u lt. ⊎_elim
          (λ here. let low : y.place < x.place = old y.place e in let top : y.place ≡ x.place = ap (λ z. z.place) here in absurd (omega arith))
          (λ later. ⊎_elim
          (λ here. let low : y.place < x.place = old y.place e in let top : z.place ≡ x.place = ap (λ z. z.place) here in absurd (omega arith))
          (λ also. closed.earlier y z later also e w u lt) n) m;
    }

-- the set that a writer knows with a write that it just made
pub closed_new : (ws : List Write) (K : Places) (x : Write) → Below x.place ws → IsClosed ws x.key K → IsClosed ws x.key x.read → ((y : Write) → In y ws → y.writer ≡ x.writer → y.key ≡ x.key → K y.place ≡ true) → IsClosed (x ∷ ws) x.key (union K (union x.read (singleton x.place)))
closed_new ws K x below known read own =
    let more : IsClosed (x ∷ ws) x.key K = closed_more ws x.key K x below known in
    let had : IsClosed (x ∷ ws) x.key x.read = closed_more ws x.key x.read x below read in
    record {
      of_writes = λ p e. ⊎_elim (λ h. more.of_writes p h)
          (λ h. ⊎_elim (λ f. had.of_writes p f) (λ f. (x, (inl refl, (sym (eqb-true p x.place f), refl)))) (or_cases (x.read p) (eqb p x.place) h))
          (or_cases (K p) (x.read p || eqb p x.place) e);
      reads = λ y m e p r. ⊎_elim
          (λ here. or_right (K p) (x.read p || eqb p x.place) (or_left (x.read p) (eqb p x.place) (sym (ap (λ z. z.read p) here) ∙ r)))
          (λ later. ⊎_elim (λ h. or_left (K p) (x.read p || eqb p x.place) (known.reads y later h p r))
          (λ h. ⊎_elim (λ f. or_right (K p) (x.read p || eqb p x.place) (or_left (x.read p) (eqb p x.place) (read.reads y later f p r)))
          (λ f. let low : y.place < x.place = below.all y later in let top : y.place ≡ x.place = eqb-true y.place x.place f in absurd (omega arith))
          (or_cases (x.read y.place) (eqb y.place x.place) h))
          (or_cases (K y.place) (x.read y.place || eqb y.place x.place) e)) m;
      earlier = λ y z m n e w u lt. ⊎_elim
          (λ here. ⊎_elim
          (λ there. let a : y.place ≡ x.place = ap (λ v. v.place) here in let b : z.place ≡ x.place = ap (λ v. v.place) there in absurd (omega arith))
          (λ also. or_left (K z.place) (x.read z.place || eqb z.place x.place) (own z also (w ∙ ap (λ v. v.writer) here) u)) n)
          (λ later. ⊎_elim
          (λ there. let a : y.place < x.place = below.all y later in let b : z.place ≡ x.place = ap (λ v. v.place) there in absurd (omega arith))
          (λ also. ⊎_elim (λ h. or_left (K z.place) (x.read z.place || eqb z.place x.place) (known.earlier y z later also h w u lt))
          (λ h. ⊎_elim (λ f. or_right (K z.place) (x.read z.place || eqb z.place x.place) (or_left (x.read z.place) (eqb z.place x.place) (read.earlier y z later also f w u lt)))
          (λ f. let low : y.place < x.place = below.all y later in let top : y.place ≡ x.place = eqb-true y.place x.place f in absurd (omega arith))
          (or_cases (x.read y.place) (eqb y.place x.place) h))
          (or_cases (K y.place) (x.read y.place || eqb y.place x.place) e)) n) m;
    }
