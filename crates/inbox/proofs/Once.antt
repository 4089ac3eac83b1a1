-- Of a sender that has a seat no pass came back.
use Rattle.std.proofs.Common.{◌≡◌, ◌≢◌, ◌||◌, ℕ, nat_eq, Bool, false, List, [], ◌∷◌, ◌++◌, refl, sym, ap, ◌∙◌, subst, arith}
use Rattle.std.proofs.lemmas.Bool.Decides.{nat_tests}
use Rattle.std.proofs.lemmas.Map.Keys.{IsDistinct-push}
use Rattle.std.specs.List.{IsDistinct, list_any}
use Rattle.std.specs.Cmp.{nat_eq_equiv}
use mathlib.Core.Option.{Option, some, some-ne-none}
use Rattle.inbox.specs.declared.parcel.Parcel.{Parcel}
use Rattle.inbox.specs.Balance.{senders_of}
use Rattle.inbox.specs.Rule.{AreBack}

pub none_once : IsDistinct nat_eq []
unfolding IsDistinct
none_once = tt

differ : (a b : ℕ) → a ≢ b → nat_eq a b ≡ false
differ a b not = grind (arith, nat_tests)

both_false : (a b : Bool) → a ≡ false → b ≡ false → (a || b) ≡ false
both_false a b x y = cc

absent : (sent : ℕ → List Parcel) (seat : ℕ → Option ℕ) (made p j : ℕ)
    (bs : List (ℕ × List Parcel)) → AreBack sent seat made bs → seat p ≡ some j
    → list_any (nat_eq p) (senders_of bs) ≡ false
absent sent seat made p j [] k at = refl
absent sent seat made p j (b ∷ bs) k at =
    both_false (nat_eq p b.0) (list_any (nat_eq p) (senders_of bs))
    (differ p b.0 (λ same. some-ne-none j (sym at ∙ (ap seat same ∙ k.1))))
    (absent sent seat made p j bs k.3 at)

senders-append : (bs : List (ℕ × List Parcel)) (b : ℕ × List Parcel)
    → senders_of (bs ++ b ∷ []) ≡ senders_of bs ++ b.0 ∷ []
senders-append [] b = refl
senders-append (c ∷ bs) b = ap (λ l. c.0 ∷ l) (senders-append bs b)

pub once_more : (sent : ℕ → List Parcel) (seat : ℕ → Option ℕ) (made p : ℕ) (put : List Parcel)
    (j : ℕ) (bs : List (ℕ × List Parcel)) → AreBack sent seat made bs → seat p ≡ some j
    → IsDistinct nat_eq (senders_of bs)
    → IsDistinct nat_eq (senders_of (bs ++ (p, put) ∷ []))
once_more sent seat made p put j bs k at once =
    subst (λ (l : List ℕ). IsDistinct nat_eq l) (sym (senders-append bs (p, put)))
    (IsDistinct-push nat_eq_equiv (senders_of bs) p once (absent sent seat made p j bs k at))
