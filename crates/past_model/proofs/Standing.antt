-- What stands at the places of a history: what a read saw and what was sent stays, and is under one key alone.
use Rattle.std.proofs.Common.{◌≡◌, ◌≢◌, ℕ, zero, suc, ◌+◌, ◌<◌, cond, List, [], ◌∷◌, ◌++◌, length, Some, refl, ap, ◌∙◌, arith}
use Rattle.std.specs.Prelude.{slice_get}
use Rattle.std.proofs.lemmas.Bool.{false_from_ne_true}
use Rattle.meta_types.specs.Name.{Key}
use Rattle.dvvset.specs.Object.{Entry}
use Rattle.past_model.specs.declared.happening.Happening.{Happening}
use Rattle.past_model.specs.declared.happening.Happening.TheVariants.{Wrote, Looked, Sent, Got, Kept, Restarted}
use Rattle.meta_types.specs.Equal.{key_eq}
use Rattle.past_model.proofs.Keys.{key_eq-true}
use Rattle.past_model.proofs.Sound.{set_at-here}
use Rattle.past_model.proofs.Walking.{set_at-other}
use Rattle.past_model.specs.Objects.{Objects, holds_nothing, with_held, first_objects, next_objects, objects_after, objects, seen_object, sent_object}
use Rattle.past_model.proofs.Changes.{objects-next, run_append}

-- ---- earlier places stay

seen_step : (o : Objects) (h : Happening) (p : ℕ) → p < o.next → (next_objects o h).seen p ≡ o.seen p
seen_step o (Wrote n k v r) p low = refl
seen_step o (Looked n k) p low = set_at-other o.seen o.next p (with_held holds_nothing k (o.held n k)) (λ e. let no : o.next ≡ p = e in absurd (omega (arith, low, no)))
seen_step o (Sent n k) p low = refl
seen_step o (Got n i) p low = refl
seen_step o (Kept n k) p low = refl
seen_step o (Restarted n j) p low = refl

load_step : (o : Objects) (h : Happening) (p : ℕ) → p < o.next → (next_objects o h).load p ≡ o.load p
load_step o (Wrote n k v r) p low = refl
load_step o (Looked n k) p low = refl
load_step o (Sent n k) p low = set_at-other o.load o.next p (with_held holds_nothing k (o.held n k)) (λ e. let no : o.next ≡ p = e in absurd (omega (arith, low, no)))
load_step o (Got n i) p low = refl
load_step o (Kept n k) p low = refl
load_step o (Restarted n j) p low = refl

seen_stays : (o : Objects) (hs : List Happening) (p : ℕ) → p < o.next → (objects_after o hs).seen p ≡ o.seen p
seen_stays o [] p low = refl
seen_stays o (h ∷ hs) p low = seen_stays (next_objects o h) hs p (omega (arith, low)) ∙ seen_step o h p low

load_stays : (o : Objects) (hs : List Happening) (p : ℕ) → p < o.next → (objects_after o hs).load p ≡ o.load p
load_stays o [] p low = refl
load_stays o (h ∷ hs) p low = load_stays (next_objects o h) hs p (omega (arith, low)) ∙ load_step o h p low

-- what an earlier read saw, and what was sent earlier, a longer history has too
pub seen_later : (hs more : List Happening) (p : ℕ) (k : Key) → p < length hs → seen_object (hs ++ more) p k ≡ seen_object hs p k
seen_later hs more p k low =
    let next : (objects hs).next ≡ length hs = objects-next hs in
    ap (λ o. o.seen p k) (run_append first_objects hs more) ∙ ap (λ f. f k) (seen_stays (objects hs) more p (omega (arith, low, next)))

pub sent_later : (hs more : List Happening) (p : ℕ) (k : Key) → p < length hs → sent_object (hs ++ more) p k ≡ sent_object hs p k
sent_later hs more p k low =
    let next : (objects hs).next ≡ length hs = objects-next hs in
    ap (λ o. o.load p k) (run_append first_objects hs more) ∙ ap (λ f. f k) (load_stays (objects hs) more p (omega (arith, low, next)))

-- ---- one key alone

not_under : (k l : Key) (o : List Entry) → l ≢ k → with_held holds_nothing k o l ≡ []
not_under k l o ne = ap (λ b. cond b o []) (false_from_ne_true (key_eq l k) (λ e. ne (key_eq-true l k e)))

sent_from : (o : Objects) (hs : List Happening) (i m : ℕ) (k l : Key) → slice_get hs i ≡ Some (Sent m k) → l ≢ k → (objects_after o hs).load (o.next + i) l ≡ []
sent_from o [] i m k l e ne = cc
sent_from o (h ∷ hs) zero m k l e ne =
    let is : h ≡ Sent m k = cc in
    ap (λ p. (objects_after (next_objects o h) hs).load p l) (let e0 : o.next + 0 ≡ o.next = omega arith in e0)
    ∙ ap (λ f. f l) (load_stays (next_objects o h) hs o.next (omega arith))
    ∙ ap (λ h. (next_objects o h).load o.next l) is
    ∙ ap (λ f. f l) (set_at-here o.load o.next (with_held holds_nothing k (o.held m k)))
    ∙ not_under k l (o.held m k) ne
sent_from o (h ∷ hs) (suc i) m k l e ne =
    ap (λ p. (objects_after (next_objects o h) hs).load p l) (let e1 : o.next + suc i ≡ o.next + 1 + i = omega arith in e1)
    ∙ sent_from (next_objects o h) hs i m k l e ne

-- what was sent under one key is nothing under another
pub sent_under : (hs : List Happening) (i m : ℕ) (k l : Key) → slice_get hs i ≡ Some (Sent m k) → l ≢ k → sent_object hs i l ≡ []
sent_under hs i m k l e ne = ap (λ p. sent_object hs p l) (let e0 : i ≡ 0 + i = omega arith in e0) ∙ sent_from first_objects hs i m k l e ne
