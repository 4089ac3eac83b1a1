-- What a past has at places and under numbers that it has not come to: nothing; and a node knows what its images start from.
use Rattle.std.proofs.Common.{◌≡◌, ℕ, ◌+◌, ◌<◌, ◌≤◌, true, false, cond, List, [], ◌∷◌, sym, ap, refl, ◌∙◌, arith, eqb}
use Rattle.std.proofs.lemmas.Bool.{eqb-true, or_left}
use Rattle.meta_types.specs.Name.{Key}
use Rattle.meta_types.specs.Equal.{key_eq}
use Rattle.past_model.specs.declared.happening.Happening.{Happening}
use Rattle.past_model.specs.declared.happening.Happening.TheVariants.{Wrote, Looked, Sent, Got, Kept, Restarted}
use Rattle.past_model.specs.Sets.{Places, Knowledge, knows_nothing, with_set, union_by_key, set_at}
use Rattle.past_model.specs.Past.{Past, start, happens, run, past, with_write_known, with_next_image}
use Rattle.past_model.proofs.Reached.{after_write}
use Rattle.past_model.proofs.Keys.{key_eq-true}
use Rattle.past_model.proofs.Walking.{set_at-other}

-- ---- nothing yet

pub record Unused (s : Past) : Type 0 where
  pub seen : (p : ℕ) → s.next ≤ p → s.seen p ≡ knows_nothing
  pub load : (p : ℕ) → s.next ≤ p → s.load p ≡ knows_nothing
  pub images : (n j : ℕ) → s.last n < j → s.images n j ≡ knows_nothing

unused_image : (s : Past) (n : ℕ) (v : Knowledge) → Unused s → (m j : ℕ) → set_at s.last n (s.last n + 1) m < j → set_at s.images n (set_at (s.images n) (s.last n + 1) v) m j ≡ knows_nothing
unused_image s n v unused m j =
    elim (eqb m n) as (λ b. eqb m n ≡ b → cond b (s.last n + 1) (s.last m) < j → cond b (set_at (s.images n) (s.last n + 1) v) (s.images m) j ≡ knows_nothing) [
      | true ↦ λ e far. set_at-other (s.images n) (s.last n + 1) j v (λ o. absurd (omega (arith, far, o))) ∙ unused.images n j (omega (arith, far))
      | false ↦ λ e far. unused.images m j far
    ] refl

unused_place : (f : ℕ → Knowledge) (next p : ℕ) (v : Knowledge) → ((q : ℕ) → next ≤ q → f q ≡ knows_nothing) → next + 1 ≤ p → set_at f next v p ≡ knows_nothing
unused_place f next p v none le = set_at-other f next p v (λ o. absurd (omega (arith, le, o))) ∙ none p (omega (arith, le))

Unused-happens : (s : Past) (h : Happening) → Unused s → Unused (happens s h)
Unused-happens s (Wrote n k v r) unused =
    record {
      seen = λ p le. unused.seen p (omega (arith, le));
      load = λ p le. unused.load p (omega (arith, le));
      images = unused_image s n (with_set (s.standing n) k ((with_write_known n k v r s).known n k)) unused;
    }
Unused-happens s (Looked n k) unused =
    record {
      seen = λ p le. unused_place s.seen s.next p (with_set knows_nothing k (s.known n k)) unused.seen le;
      load = λ p le. unused.load p (omega (arith, le));
      images = unused.images;
    }
Unused-happens s (Sent n k) unused =
    record {
      seen = λ p le. unused.seen p (omega (arith, le));
      load = λ p le. unused_place s.load s.next p (with_set knows_nothing k (s.known n k)) unused.load le;
      images = unused.images;
    }
Unused-happens s (Got n i) unused =
    record { seen = λ p le. unused.seen p (omega (arith, le)); load = λ p le. unused.load p (omega (arith, le)); images = unused.images }
Unused-happens s (Kept n k) unused =
    record {
      seen = λ p le. unused.seen p (omega (arith, le));
      load = λ p le. unused.load p (omega (arith, le));
      images = unused_image s n (with_set (s.standing n) k (s.known n k)) unused;
    }
Unused-happens s (Restarted n j) unused =
    record { seen = λ p le. unused.seen p (omega (arith, le)); load = λ p le. unused.load p (omega (arith, le)); images = unused.images }

Unused-run : (s : Past) (hs : List Happening) → Unused s → Unused (run s hs)
Unused-run s [] unused = unused
Unused-run s (h ∷ hs) unused = Unused-run (happens s h) hs (Unused-happens s h unused)

pub unused_past : (hs : List Happening) → Unused (past hs)
unused_past hs = Unused-run start hs (record { seen = λ p le. refl; load = λ p le. refl; images = λ n j lt. refl })

-- ---- what images start from

-- a node knows what its next image starts from
pub record StandingKnown (s : Past) : Type 0 where
  pub within : (n : ℕ) (k : Key) (p : ℕ) → s.standing n k p ≡ true → s.known n k p ≡ true

-- the standing image with what is known under one key more
more_standing : (s : Past) (n : ℕ) (l : Key) → StandingKnown s → (k : Key) (p : ℕ) → with_set (s.standing n) l (s.known n l) k p ≡ true → s.known n k p ≡ true
more_standing s n l is k p =
    elim (key_eq k l) as (λ b. key_eq k l ≡ b → cond b (s.known n l) (s.standing n k) p ≡ true → s.known n k p ≡ true) [
      | true ↦ λ e has. ap (λ x. s.known n x p) (key_eq-true k l e) ∙ has
      | false ↦ λ e has. is.within n k p has
    ] refl

imaged_standing : (s : Past) (n : ℕ) (l : Key) → StandingKnown s → StandingKnown (with_next_image n l s)
imaged_standing s n l is = record {
  within = λ m k p.
      elim (eqb m n) as (λ b. eqb m n ≡ b → cond b (with_set (s.standing n) l (s.known n l)) (s.standing m) k p ≡ true → s.known m k p ≡ true) [
        | true ↦ λ e has. ap (λ x. s.known x k p) (eqb-true m n e) ∙ more_standing s n l is k p has
        | false ↦ λ e has. is.within m k p has
      ] refl;
}

more_known : (s : Past) (n : ℕ) (v : Knowledge) → StandingKnown s → ((k : Key) (p : ℕ) → s.known n k p ≡ true → v k p ≡ true) → (m : ℕ) (k : Key) (p : ℕ) → s.standing m k p ≡ true → set_at s.known n v m k p ≡ true
more_known s n v is grown m k p has =
    elim (eqb m n) as (λ b. eqb m n ≡ b → cond b v (s.known m) k p ≡ true) [
      | true ↦ λ e. grown k p (ap (λ x. s.known x k p) (sym (eqb-true m n e)) ∙ is.within m k p has)
      | false ↦ λ e. is.within m k p has
    ] refl

with_more : (v : Knowledge) (l : Key) (S : Places) → ((p : ℕ) → v l p ≡ true → S p ≡ true) → (k : Key) (p : ℕ) → v k p ≡ true → with_set v l S k p ≡ true
with_more v l S grown k p has =
    elim (key_eq k l) as (λ b. key_eq k l ≡ b → cond b S (v k) p ≡ true) [
      | true ↦ λ e. grown p (ap (λ x. v x p) (sym (key_eq-true k l e)) ∙ has)
      | false ↦ λ e. has
    ] refl

StandingKnown-happens : (s : Past) (h : Happening) → StandingKnown s → StandingKnown (happens s h)
StandingKnown-happens s (Wrote n l v r) is =
    let written : StandingKnown (with_write_known n l v r s) = record {
      within = more_known s n (with_set (s.known n) l (after_write s n l r)) is
          (with_more (s.known n) l (after_write s n l r) (λ p has. or_left (s.known n l p) _ has));
    } in
    record { within = (imaged_standing (with_write_known n l v r s) n l written).within }
StandingKnown-happens s (Looked n l) is = record { within = is.within }
StandingKnown-happens s (Sent n l) is = record { within = is.within }
StandingKnown-happens s (Got n i) is =
    record { within = more_known s n (union_by_key (s.known n) (s.load i)) is (λ k p has. or_left (s.known n k p) (s.load i k p) has) }
StandingKnown-happens s (Kept n l) is = record { within = (imaged_standing s n l is).within }
StandingKnown-happens s (Restarted n j) is = record {
  within = λ m k p.
      elim (eqb m n) as (λ b. cond b (s.images n j) (s.standing m) k p ≡ true → cond b (s.images n j) (s.known m) k p ≡ true) [
        | true ↦ λ has. has
        | false ↦ λ has. is.within m k p has
      ];
}

StandingKnown-run : (s : Past) (hs : List Happening) → StandingKnown s → StandingKnown (run s hs)
StandingKnown-run s [] is = is
StandingKnown-run s (h ∷ hs) is = StandingKnown-run (happens s h) hs (StandingKnown-happens s h is)

pub standing_known : (hs : List Happening) → StandingKnown (past hs)
standing_known hs = StandingKnown-run start hs (record { within = λ n k p has. has })
