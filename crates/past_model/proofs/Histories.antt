-- A history with one more happening that fits it is a history.
use Rattle.std.proofs.Common.{◌≡◌, ◌⊎◌, inl, inr, List, [], ◌∷◌, ◌++◌, refl, subst}
use Rattle.std.proofs.Common.{⊎_elim}
use Rattle.past_model.specs.declared.happening.Happening.{Happening}
use Rattle.past_model.specs.History.{Fits, IsHistory}

-- if a list with one more element is split, that is at the end or within the list
split_snoc : (hs : List Happening) (h : Happening) (before after : List Happening) (g : Happening) → hs ++ h ∷ [] ≡ before ++ g ∷ after
    → ((hs ≡ before) × (h ≡ g)) ⊎ ((rest : List Happening) × (hs ≡ before ++ g ∷ rest))
split_snoc [] h [] after g e = inl (refl, cc)
split_snoc [] h (x ∷ []) after g e = absurd (cc)
split_snoc [] h (x ∷ y ∷ ys) after g e = absurd (cc)
split_snoc (x ∷ hs) h [] after g e = inr (hs, cc)
split_snoc (x ∷ hs) h (y ∷ before) after g e =
    let head : x ≡ y = cc in
    let tail : hs ++ h ∷ [] ≡ before ++ g ∷ after = cc in
    ⊎_elim
    (λ end. inl ((λ i. head i ∷ end.0 i), end.1))
    (λ within. inr (within.0, (λ i. head i ∷ within.1 i)))
    (split_snoc hs h before after g tail)

pub history_snoc : (hs : List Happening) (h : Happening) → IsHistory hs → Fits hs h → IsHistory (hs ++ h ∷ [])
history_snoc hs h is fits = record {
  fits = λ before after g e.
      ⊎_elim
      (λ end. subst (λ b. Fits b g) end.0 (subst (Fits hs) end.1 fits))
      (λ within. is.fits before within.0 g within.1)
      (split_snoc hs h before after g e);
}
