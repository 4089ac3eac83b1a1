-- Well-formed histories, place by place.
use Rattle.std.proofs.Common.{◌≡◌, ℕ, ◌+◌, ◌<◌, ◌≤◌, Bool, true, zero, suc, List, [], ◌∷◌, ◌++◌, length, take, drop, get_or, sym, ap, refl, subst, ◌∙◌, arith, ⊎_elim, append_assoc, Option, Some, None}
use Rattle.std.specs.Prelude.{slice_get, ◌↔◌, IsTrue}
use Rattle.std.proofs.lemmas.Bool.{cases_lt}
use Rattle.std.proofs.lemmas.List.{take-append-drop}
use Rattle.std.proofs.lemmas.Option.{slice_get_within, get_or_from_slice_get}
use Rattle.meta_types.specs.Name.{Key}
use Rattle.meta_types.specs.Value.{ValueParts}
use Rattle.past_model.specs.declared.happening.Happening.{Happening}
use Rattle.past_model.specs.declared.happening.Happening.TheVariants.{Wrote, Looked, Sent, Got, Kept, Restarted}
use Rattle.past_model.specs.History.{Fits, IsHistory}
use Rattle.past_model.specs.Moment.{is_look_under, is_sending}
use Rattle.past_model.proofs.Keys.{key_eq-true, key_eq-self}

-- ---- what is named

pub look_of : (k : Key) (o : Option Happening) → is_look_under k o ≡ true → (m : ℕ) × (o ≡ Some (Looked m k))
look_of k None e = absurd (cc)
look_of k (Some (Wrote n l v r)) e = absurd (cc)
look_of k (Some (Looked n l)) e = (n, ap (λ x. Some (Looked n x)) (key_eq-true l k e))
look_of k (Some (Sent n l)) e = absurd (cc)
look_of k (Some (Got n i)) e = absurd (cc)
look_of k (Some (Kept n l)) e = absurd (cc)
look_of k (Some (Restarted n j)) e = absurd (cc)

look_is : (k : Key) (o : Option Happening) → (m : ℕ) × (o ≡ Some (Looked m k)) → is_look_under k o ≡ true
look_is k o found = ap (is_look_under k) found.1 ∙ key_eq-self k

pub sending_of : (o : Option Happening) → is_sending o ≡ true → (m : ℕ) × ((k : Key) × (o ≡ Some (Sent m k)))
sending_of None e = absurd (cc)
sending_of (Some (Wrote n l v r)) e = absurd (cc)
sending_of (Some (Looked n l)) e = absurd (cc)
sending_of (Some (Sent n l)) e = (n, (l, refl))
sending_of (Some (Got n i)) e = absurd (cc)
sending_of (Some (Kept n l)) e = absurd (cc)
sending_of (Some (Restarted n j)) e = absurd (cc)

pub write_fits : (before : List Happening) (h : Happening) (n : ℕ) (k : Key) (v : ValueParts) (seen : Option ℕ) (r : ℕ) (b : Bool) → h ≡ Wrote n k v seen → seen ≡ Some r → b ≡ is_look_under k (slice_get before r) → IsTrue b ↔ Fits before h
write_fits before h n k v seen r b is some found =
    let at : h ≡ Wrote n k v (Some r) = is ∙ ap (λ o. Wrote n k v o) some in (
      (λ e. subst (Fits before) (sym at) (look_of k (slice_get before r) (sym found ∙ e))),
      (λ fits. found ∙ look_is k (slice_get before r) (subst (Fits before) at fits)),
    )

pub delivery_fits : (before : List Happening) (h : Happening) (n i : ℕ) (b : Bool) → h ≡ Got n i → b ≡ is_sending (slice_get before i) → IsTrue b ↔ Fits before h
delivery_fits before h n i b is found = (
  (λ e. subst (Fits before) (sym is) (sending_of (slice_get before i) (sym found ∙ e))),
  (λ fits. found ∙ ap is_sending (subst (Fits before) is fits).1.1),
)

-- ---- place by place

-- the happenings before a place fit
pub record FitSoFar (hs : List Happening) (places : ℕ) : Type 0 where
  pub fits : (p : ℕ) (h : Happening) → p < places → slice_get hs p ≡ Some h → Fits (take p hs) h

split_at : (hs : List Happening) (p : ℕ) (h : Happening) → slice_get hs p ≡ Some h → hs ≡ take p hs ++ h ∷ drop (suc p) hs
split_at [] p h e = absurd (cc)
split_at (x ∷ xs) zero h e = let same : x ≡ h = cc in ap (λ y. y ∷ xs) same
split_at (x ∷ xs) (suc p) h e = ap (λ l. x ∷ l) (split_at xs p h e)

in_split : (before after : List Happening) (h : Happening) → slice_get (before ++ h ∷ after) (length before) ≡ Some h
in_split [] after h = refl
in_split (x ∷ xs) after h = in_split xs after h

front : (before after : List Happening) → take (length before) (before ++ after) ≡ before
front [] after = refl
front (x ∷ xs) after = ap (λ l. x ∷ l) (front xs after)

-- each happening of a history fits those before its place
pub fits_at : (hs : List Happening) (p : ℕ) (h : Happening) → IsHistory hs → slice_get hs p ≡ Some h → Fits (take p hs) h
fits_at hs p h history e = history.fits (take p hs) (drop (suc p) hs) h (split_at hs p h e)

pub so_far_next : (hs : List Happening) (i : ℕ) (h : Happening) → i < length hs → h ≡ get_or hs i h → Fits (take i hs) h → FitSoFar hs i → FitSoFar hs (i + 1)
so_far_next hs i h lt is fits far = record {
  fits = λ p g less e.
      ⊎_elim
      (λ before. far.fits p g before e)
      (λ here.
      let same : i ≡ p = omega arith in
      let it : h ≡ g = is ∙ get_or_from_slice_get hs i g h (subst (λ q. slice_get hs q ≡ Some g) (sym same) e) in
      subst (λ q. Fits (take q hs) g) same (subst (Fits (take i hs)) it fits))
      (cases_lt p i);
}

pub so_far_all : (hs : List Happening) (i : ℕ) → length hs ≤ i → FitSoFar hs i → IsHistory hs
so_far_all hs i le far = record {
  fits = λ before after h split.
      let at : slice_get hs (length before) ≡ Some h = ap (λ l. slice_get l (length before)) split ∙ in_split before after h in
      let less : length before < length hs = slice_get_within hs (length before) h at in
      subst (λ l. Fits l h) (ap (take (length before)) split ∙ front before (h ∷ after)) (far.fits (length before) h (omega arith) at);
}

-- ---- fronts of a history

-- a front of a history is one
pub history_before : (hs more : List Happening) → IsHistory (hs ++ more) → IsHistory hs
history_before hs more history =
    record {
      fits = λ before after h e.
          history.fits before (after ++ more) h (ap (λ l. l ++ more) e ∙ append_assoc before (h ∷ after) more);
    }

pub history_taken : (hs : List Happening) (i : ℕ) → IsHistory hs → IsHistory (take i hs)
history_taken hs i history = history_before (take i hs) (drop i hs) (subst IsHistory (sym (take-append-drop i hs)) history)
