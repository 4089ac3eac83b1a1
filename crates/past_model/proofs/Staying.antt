-- What a longer history keeps of a shorter one.
use Rattle.std.proofs.Common.{◌≡◌, ℕ, ◌+◌, ◌<◌, Bool, true, false, cond, List, [], ◌∷◌, ◌++◌, length, sym, ap, refl, subst, ◌∙◌, arith, eqb}
use Rattle.std.specs.Prelude.{◌&&◌, ◌||◌, not, filter, map}
use Rattle.std.proofs.lemmas.Bool.{false_from_ne_true}
use Rattle.meta_types.specs.Name.{Key}
use Rattle.dvvset.specs.Object.{Entry, Counter}
use Rattle.dvvset.specs.Clock.{join}
use Rattle.past_model.specs.declared.happening.Happening.{Happening}
use Rattle.past_model.specs.Sets.{Places}
use Rattle.past_model.specs.Past.{Past, Write, start, happens, run, past, writes}
use Rattle.past_model.specs.Shown.{IsClosed, was_read, is_sibling, count_in, siblings_by, IsContext, IsObjectOf}
use Rattle.past_model.proofs.Orderly.{Below}
use Rattle.past_model.proofs.Grown.{closed_below, closed_more}
use Rattle.past_model.proofs.Placed.{Placed, Placed-happens, Placed-start, Placed-run, written, writes-after}

-- ---- lists in two parts

pub run_append : (s : Past) (hs more : List Happening) → run s (hs ++ more) ≡ run (run s hs) more
run_append s [] more = refl
run_append s (h ∷ hs) more = run_append (happens s h) hs more

pub past_snoc : (hs : List Happening) (h : Happening) → past (hs ++ h ∷ []) ≡ happens (past hs) h
past_snoc hs h = run_append start hs (h ∷ [])

-- the next place is the number of the happenings
run-next : (s : Past) (hs : List Happening) → (run s hs).next ≡ s.next + length hs
run-next s [] = omega arith
run-next s (h ∷ hs) =
    let rest : (run (happens s h) hs).next ≡ s.next + 1 + length hs = run-next (happens s h) hs in
    omega arith

pub past-next : (hs : List Happening) → (past hs).next ≡ length hs
past-next hs = let e : (past hs).next ≡ 0 + length hs = run-next start hs in omega arith

-- what one more write keeps, a longer history keeps
pub stays_run : (P : List Write → Type 0) → ((x : Write) (ws : List Write) → Below x.place ws → P ws → P (x ∷ ws)) → (s : Past) (more : List Happening) → Placed s → P s.writes → P (run s more).writes
stays_run P step s [] placed p = p
stays_run P step s (h ∷ more) placed p =
    stays_run P step (happens s h) more (Placed-happens s h placed)
    (writes-after P s h p (λ n k v r. step (written s n k v r) s.writes placed.below p))

pub stays : (P : List Write → Type 0) → ((x : Write) (ws : List Write) → Below x.place ws → P ws → P (x ∷ ws)) → (hs more : List Happening) → P (writes hs) → P (writes (hs ++ more))
stays P step hs more p =
    subst (λ s. P s.writes) (sym (run_append start hs more)) (stays_run P step (past hs) more (Placed-run start hs Placed-start) p)

-- ---- an object stays the object of its set

-- a closed set lacks a write that is made after it
pub not_in : (ws : List Write) (k : Key) (S : Places) (x : Write) → Below x.place ws → IsClosed ws k S → S x.place ≡ false
not_in ws k S x below closed =
    false_from_ne_true (S x.place) (λ e. let low : x.place < x.place = closed_below ws k S x.place below closed x.place e in absurd (omega arith))

and-none : (a b : Bool) → b ≡ false → (a && b) ≡ false
and-none true b e = e
and-none false b e = refl

pub was_read-more : (ws : List Write) (S : Places) (x : Write) → S x.place ≡ false → (p : ℕ) → was_read (x ∷ ws) S p ≡ was_read ws S p
was_read-more ws S x fresh p = ap (λ b. (b && x.read p) || was_read ws S p) fresh

pub count_in-more : (ws : List Write) (S : Places) (x : Write) → S x.place ≡ false → (w : ℕ) → count_in (x ∷ ws) S w ≡ count_in ws S w
count_in-more ws S x fresh w =
    ap (λ b. length (cond b (x ∷ filter (λ y. eqb y.writer w && S y.place) ws) (filter (λ y. eqb y.writer w && S y.place) ws))) (and-none (eqb x.writer w) (S x.place) fresh)

pub siblings_by-more : (ws : List Write) (S : Places) (x : Write) → S x.place ≡ false → (w : ℕ) → siblings_by (x ∷ ws) S w ≡ siblings_by ws S w
siblings_by-more ws S x fresh w =
    let same : (p : ℕ) → was_read (x ∷ ws) S p ≡ was_read ws S p = was_read-more ws S x fresh in
    (λ i. map (λ y. y.value) (filter (λ y. eqb y.writer w && (S y.place && not (same y.place i))) (x ∷ ws)))
    ∙ ap (λ b. map (λ y. y.value) (cond b (x ∷ filter (λ y. eqb y.writer w && is_sibling ws S y) ws) (filter (λ y. eqb y.writer w && is_sibling ws S y) ws)))
    (and-none (eqb x.writer w) (is_sibling ws S x) (ap (λ b. b && not (was_read ws S x.place)) fresh))

pub context_more : (ws : List Write) (S : Places) (cs : List Counter) (x : Write) → S x.place ≡ false → IsContext ws S cs → IsContext (x ∷ ws) S cs
context_more ws S cs x fresh is =
    record { rising = is.rising; counts = λ w. is.counts w ∙ sym (count_in-more ws S x fresh w); held = is.held }

pub object_more : (ws : List Write) (k : Key) (S : Places) (a : List Entry) (x : Write) → Below x.place ws → IsObjectOf ws k S a → IsObjectOf (x ∷ ws) k S a
object_more ws k S a x below is =
    let fresh : S x.place ≡ false = not_in ws k S x below is.closed in
    record {
      closed = closed_more ws k S x below is.closed;
      context = context_more ws S (join a) x fresh is.context;
      siblings = λ w. is.siblings w ∙ sym (siblings_by-more ws S x fresh w);
    }

pub object_stays : (hs more : List Happening) (k : Key) (S : Places) (a : List Entry) → IsObjectOf (writes hs) k S a → IsObjectOf (writes (hs ++ more)) k S a
object_stays hs more k S a is =
    stays (λ ws. IsObjectOf ws k S a) (λ x ws below p. object_more ws k S a x below p) hs more is
