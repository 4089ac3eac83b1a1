-- What was seen and sent at an earlier place is what its node knew there.
use Rattle.std.proofs.Common.{◌≡◌, ℕ, ◌+◌, ◌<◌, ◌≤◌, zero, suc, List, [], ◌∷◌, length, take, drop, min, sym, ap, refl, ◌∙◌, arith, Some, length-take}
use Rattle.std.specs.Prelude.{slice_get}
use Rattle.std.proofs.lemmas.Option.{slice_get_within, get_or_from_slice_get}
use Rattle.meta_types.specs.Name.{Key}
use Rattle.past_model.specs.declared.happening.Happening.{Happening}
use Rattle.past_model.specs.declared.happening.Happening.TheVariants.{Wrote, Looked, Sent, Got, Kept, Restarted}
use Rattle.past_model.specs.Sets.{knows_nothing, with_set, set_at}
use Rattle.past_model.specs.Past.{Past, start, happens, run, past}
use Rattle.past_model.proofs.Sound.{set_at-here, with_set-at}
use Rattle.past_model.proofs.Staying.{run_append, past-next}
use Rattle.past_model.proofs.Walking.{take_next, in_parts, set_at-other}

-- a happening that stands in the front stands in the whole
pub of_front : {X : Type 0} (xs : List X) (n i : ℕ) (x : X) → slice_get (take n xs) i ≡ Some x → (i < n) × (slice_get xs i ≡ Some x)
of_front xs zero i x e = absurd (cc)
of_front [] (suc n) i x e = absurd (cc)
of_front (y ∷ ys) (suc n) zero x e = (omega arith, e)
of_front (y ∷ ys) (suc n) (suc i) x e = let rest : (i < n) × (slice_get ys i ≡ Some x) = of_front ys n i x e in (omega (arith, rest.0), rest.1)

pub next_at : (hs : List Happening) (i : ℕ) → i ≤ length hs → (past (take i hs)).next ≡ i
next_at hs i le = past-next (take i hs) ∙ length-take i hs ∙ (let least : min i (length hs) ≡ i = omega arith in least)

seen_step : (s : Past) (h : Happening) (r : ℕ) → r < s.next → (happens s h).seen r ≡ s.seen r
seen_step s (Wrote n k v q) r lt = refl
seen_step s (Looked n k) r lt = set_at-other s.seen s.next r (with_set knows_nothing k (s.known n k)) (λ e. absurd (omega arith))
seen_step s (Sent n k) r lt = refl
seen_step s (Got n i) r lt = refl
seen_step s (Kept n k) r lt = refl
seen_step s (Restarted n j) r lt = refl

load_step : (s : Past) (h : Happening) (r : ℕ) → r < s.next → (happens s h).load r ≡ s.load r
load_step s (Wrote n k v q) r lt = refl
load_step s (Looked n k) r lt = refl
load_step s (Sent n k) r lt = set_at-other s.load s.next r (with_set knows_nothing k (s.known n k)) (λ e. absurd (omega arith))
load_step s (Got n i) r lt = refl
load_step s (Kept n k) r lt = refl
load_step s (Restarted n j) r lt = refl

seen_stays : (s : Past) (hs : List Happening) (r : ℕ) → r < s.next → (run s hs).seen r ≡ s.seen r
seen_stays s [] r lt = refl
seen_stays s (h ∷ hs) r lt = seen_stays (happens s h) hs r (omega arith) ∙ seen_step s h r lt

load_stays : (s : Past) (hs : List Happening) (r : ℕ) → r < s.next → (run s hs).load r ≡ s.load r
load_stays s [] r lt = refl
load_stays s (h ∷ hs) r lt = load_stays (happens s h) hs r (omega arith) ∙ load_step s h r lt

-- one more happening, by what stands at the place
pub take_at : (hs : List Happening) (i : ℕ) (h : Happening) → slice_get hs i ≡ Some h → past (take (i + 1) hs) ≡ happens (past (take i hs)) h
take_at hs i h at = take_next hs i h (slice_get_within hs i h at) (sym (get_or_from_slice_get hs i h h at))

pub seen_at : (hs : List Happening) (r places m : ℕ) (k : Key) → r < places → slice_get hs r ≡ Some (Looked m k) → (past (take places hs)).seen r k ≡ (past (take (r + 1) hs)).known m k
seen_at hs r places m k lt at =
    let within : r < length hs = slice_get_within hs r (Looked m k) at in
    let s : Past = past (take r hs) in
    let step : past (take (r + 1) hs) ≡ happens (past (take r hs)) (Looked m k) = take_at hs r (Looked m k) at in
    let here : (past (take r hs)).next ≡ r = next_at hs r (omega arith) in
    let later : (past (take (r + 1) hs)).next ≡ r + 1 = next_at hs (r + 1) (omega arith) in
    ap (λ l. (past l).seen r k) (in_parts hs (r + 1) places (omega arith))
    ∙ ap (λ t. t.seen r k) (run_append start (take (r + 1) hs) (drop (r + 1) (take places hs)))
    ∙ ap (λ v. v k) (seen_stays (past (take (r + 1) hs)) (drop (r + 1) (take places hs)) r (omega arith))
    ∙ ap (λ t. t.seen r k) step
    ∙ ap (λ p. set_at (past (take r hs)).seen p (with_set knows_nothing k ((past (take r hs)).known m k)) r k) here
    ∙ ap (λ v. v k) (set_at-here (past (take r hs)).seen r (with_set knows_nothing k ((past (take r hs)).known m k)))
    ∙ with_set-at knows_nothing k ((past (take r hs)).known m k)
    ∙ sym (ap (λ t. t.known m k) step)

pub load_at : (hs : List Happening) (r places m : ℕ) (k : Key) → r < places → slice_get hs r ≡ Some (Sent m k) → (past (take places hs)).load r ≡ with_set knows_nothing k ((past (take (r + 1) hs)).known m k)
load_at hs r places m k lt at =
    let within : r < length hs = slice_get_within hs r (Sent m k) at in
    let step : past (take (r + 1) hs) ≡ happens (past (take r hs)) (Sent m k) = take_at hs r (Sent m k) at in
    let here : (past (take r hs)).next ≡ r = next_at hs r (omega arith) in
    let later : (past (take (r + 1) hs)).next ≡ r + 1 = next_at hs (r + 1) (omega arith) in
    ap (λ l. (past l).load r) (in_parts hs (r + 1) places (omega arith))
    ∙ ap (λ t. t.load r) (run_append start (take (r + 1) hs) (drop (r + 1) (take places hs)))
    ∙ load_stays (past (take (r + 1) hs)) (drop (r + 1) (take places hs)) r (omega arith)
    ∙ ap (λ t. t.load r) step
    ∙ ap (λ p. set_at (past (take r hs)).load p (with_set knows_nothing k ((past (take r hs)).known m k)) r) here
    ∙ set_at-here (past (take r hs)).load r (with_set knows_nothing k ((past (take r hs)).known m k))
    ∙ sym (ap (λ t. with_set knows_nothing k (t.known m k)) step)
