-- Writes that are left nowhere are known nowhere later.
use Rattle.std.proofs.Common.{◌≡◌, ℕ, ◌<◌, ◌≤◌, true, List, [], ◌∷◌, ◌++◌, length, sym, ap, refl, subst, ◌∙◌, arith, inl, inr, Option, Some, None, ⊎_elim}
use Rattle.std.specs.Prelude.{◌||◌}
use Rattle.std.proofs.lemmas.Bool.{false_from_ne_true, false≢true, ne_eqb, cases_lt}
use Rattle.meta_types.specs.Name.{Key}
use Rattle.meta_types.specs.Value.{ValueParts}
use Rattle.past_model.specs.declared.happening.Happening.{Happening}
use Rattle.past_model.specs.declared.happening.Happening.TheVariants.{Wrote, Looked, Sent, Got, Kept, Restarted}
use Rattle.past_model.specs.Sets.{Places, empty, singleton, union}
use Rattle.past_model.specs.Past.{Past, start, happens, run, past, known, read_of}
use Rattle.past_model.proofs.Reached.{after_write}
use Rattle.past_model.proofs.Staying.{run_append, past-next}
use Rattle.agreement.specs.Left.{IsAmong, ArePlacesOf, HasNone, OfAllLeft, OfContextsLeft, newest_image}
use Rattle.agreement.proofs.Remaining.{Remaining, IsKept, NewHas, Remaining-happens}
use Rattle.agreement.proofs.Unused.{Unused, unused_past, standing_known}

-- the context is used later under the key
abbrev pub IsUsed : List Happening → Key → ℕ → Type 0
IsUsed after k r = (n : ℕ) × ((v : ValueParts) × IsAmong (Wrote n k v (Some r)) after)

neither : (W S T : Places) → HasNone W S → HasNone W T → HasNone W (union S T)
neither W S T left right p is = (λ i. left p is i || right p is i)

none_kept : (W : Places) → IsKept (HasNone W)
none_kept W = record { none = λ p is. refl; both = neither W }

-- a write that is made later is none of them
new_none : (W : Places) (next bound : ℕ) → ((p : ℕ) → W p ≡ true → p < bound) → bound ≤ next → HasNone W (singleton next)
new_none W next bound old le p is = ne_eqb p next (λ e. let low : p < bound = old p is in absurd (omega (arith, low, le, e)))

-- nor has a context that is used
read_none : (W : Places) (k : Key) (newest : ℕ → ℕ) (after : List Happening) (s : Past) (n : ℕ) (v : ValueParts) (r : Option ℕ) → IsAmong (Wrote n k v r) after → Remaining (HasNone W) (IsUsed after k) k newest after s → HasNone W (read_of s k r)
read_none W k newest after s n v None among all = λ p is. refl
read_none W k newest after s n v (Some r) among all = all.contexts r (n, (v, among))

none_new : (W : Places) (k : Key) (newest : ℕ → ℕ) (after : List Happening) (s : Past) (h : Happening) (bound : ℕ) → ((p : ℕ) → W p ≡ true → p < bound) → bound ≤ s.next → IsAmong h after → Remaining (HasNone W) (IsUsed after k) k newest after s → NewHas (HasNone W) k s h
none_new W k newest after s (Wrote n l v r) bound old le among all =
    λ same.
    subst (λ x. HasNone W (after_write s n x r)) (sym same)
    (neither W (s.known n k) (union (read_of s k r) (singleton s.next)) (all.nodes n)
    (neither W (read_of s k r) (singleton s.next)
    (read_none W k newest after s n v r (subst (λ x. IsAmong (Wrote n x v r) after) same among) all)
    (new_none W s.next bound old le)))
none_new W k newest after s (Looked n l) bound old le among all = tt
none_new W k newest after s (Sent n l) bound old le among all = tt
none_new W k newest after s (Got n i) bound old le among all = tt
none_new W k newest after s (Kept n l) bound old le among all = tt
none_new W k newest after s (Restarted n j) bound old le among all = tt

none_run : (W : Places) (k : Key) (newest : ℕ → ℕ) (after : List Happening) (bound : ℕ) → ((p : ℕ) → W p ≡ true → p < bound) → (s : Past) (hs : List Happening) → ((h : Happening) → IsAmong h hs → IsAmong h after) → bound ≤ s.next → Remaining (HasNone W) (IsUsed after k) k newest after s → Remaining (HasNone W) (IsUsed after k) k newest after (run s hs)
none_run W k newest after bound old s [] sub le all = all
none_run W k newest after bound old s (h ∷ hs) sub le all =
    none_run W k newest after bound old (happens s h) hs (λ g among. sub g (inr among)) (omega (arith, le))
    (Remaining-happens (HasNone W) (IsUsed after k) (none_kept W) k newest after s h (sub h (inl refl)) all
    (none_new W k newest after s h bound old le (sub h (inl refl)) all))

-- ---- at the place

pub starts : (P : Places → Type 0) (k : Key) (before after : List Happening) (C : ℕ → Type 0) → P empty → OfAllLeft P before after k → ((n j : ℕ) → IsAmong (Restarted n j) after → newest_image before n < j → P ((past before).standing n k)) → ((r : ℕ) → C r → r < length before → P ((past before).seen r k)) → Remaining P C k (newest_image before) after (past before)
starts P k before after C none left standing contexts =
    let unused : Unused (past before) = unused_past before in
    let next : (past before).next ≡ length before = past-next before in
    record {
      nodes = left.nodes;
      images = λ n j among.
          ⊎_elim
          (λ later. subst P (sym (ap (λ v. v k) (unused.images n j later))) none)
          (λ le. left.images n j among (omega (arith, le)))
          (cases_lt ((past before).last n) j);
      standing = standing;
      objects = λ n i among.
          ⊎_elim
          (λ lt. left.objects n i among lt)
          (λ far. subst P (sym (ap (λ v. v k) (unused.load i (omega (arith, far, next))))) none)
          (cases_lt i (length before));
      contexts = λ r used.
          ⊎_elim
          (λ lt. contexts r used lt)
          (λ far. subst P (sym (ap (λ v. v k) (unused.seen r (omega (arith, far, next))))) none)
          (cases_lt r (length before));
      grown = λ n. omega arith;
    }

pub forgotten : (before after : List Happening) (k : Key) (W : Places) → ArePlacesOf before W → OfAllLeft (HasNone W) before after k → OfContextsLeft (HasNone W) before after k → (n : ℕ) → HasNone W (known (before ++ after) n k)
forgotten before after k W old left contexts n =
    let next : (past before).next ≡ length before = past-next before in
    let first : Remaining (HasNone W) (IsUsed after k) k (newest_image before) after (past before) =
    starts (HasNone W) k before after (IsUsed after k) (λ p is. refl) left
    (λ m j among late p is. false_from_ne_true ((past before).standing m k p) (λ e. false≢true (sym (left.nodes m p is) ∙ (standing_known before).within m k p e)))
    (λ r used lt. contexts used.0 r used.1.0 used.1.1 lt) in
    let last : Remaining (HasNone W) (IsUsed after k) k (newest_image before) after (run (past before) after) =
    none_run W k (newest_image before) after (length before) old (past before) after (λ h among. among) (omega (arith, next)) first in
    subst (λ s. HasNone W (s.known n k)) (sym (run_append start before after)) (last.nodes n)
