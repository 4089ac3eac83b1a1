-- A round runs at once.
use Rattle.std.proofs.Common.{◌≡◌, ℕ, true, false, List, [], ◌∷◌, ◌++◌, ap, cond, ◌∙◌, ⊎_elim, eqb, refl}
use Rattle.std.specs.Prelude.{◌||◌}
use Rattle.std.proofs.lemmas.Bool.{or_left, or_right, or_cases, or_parts, eqb-true, eq-eqb}
use Rattle.agreement.specs.Rounds.{Exchange, Known, takes_part, after_one, after_all, is_busy, IsRound}
use Rattle.agreement.proofs.Along.{both_know}
use Rattle.agreement.proofs.Doubling.{apart}

unmoved : (K : Known) (e : Exchange) (n m : ℕ) → takes_part e n ≡ false → after_one K e n m ≡ K n m
unmoved K e n m idle = ap (λ b. cond b (K e.one m || K e.other m) (K n m)) idle

pub idle_stays : (K : Known) (es : List Exchange) (n m : ℕ) → is_busy es n ≡ false → after_all K es n m ≡ K n m
idle_stays K [] n m idle = refl
idle_stays K (e ∷ es) n m idle =
    let parts : (takes_part e n ≡ false) × (is_busy es n ≡ false) = or_parts (takes_part e n) (is_busy es n) idle in
    idle_stays (after_one K e) es n m parts.1 ∙ unmoved K e n m parts.0

busy_in : (es fs : List Exchange) (e : Exchange) (n : ℕ) → takes_part e n ≡ true → is_busy (es ++ e ∷ fs) n ≡ true
busy_in [] fs e n part = or_left (takes_part e n) (is_busy fs n) part
busy_in (f ∷ es) fs e n part = or_right (takes_part f n) (is_busy (es ++ e ∷ fs) n) (busy_in es fs e n part)

pub part_knows : (K : Known) (es fs : List Exchange) (e : Exchange) → IsRound (es ++ e ∷ fs) → (n m : ℕ) → takes_part e n ≡ true → after_all K (es ++ e ∷ fs) n m ≡ (K e.one m || K e.other m)
part_knows K [] fs e round n m part =
    let idle : is_busy fs n ≡ false =
    ⊎_elim
    (λ one. ap (is_busy fs) (eqb-true n e.one one) ∙ round.1)
    (λ other. ap (is_busy fs) (eqb-true n e.other other) ∙ round.2)
    (or_cases (eqb n e.one) (eqb n e.other) part) in
    idle_stays (after_one K e) fs n m idle ∙ both_know K e n m part
part_knows K (f ∷ es) fs e round n m part =
    let one : takes_part f e.one ≡ false =
    apart f (es ++ e ∷ fs) e.one round.1 round.2 (busy_in es fs e e.one (or_left (eqb e.one e.one) (eqb e.one e.other) (eq-eqb e.one e.one refl))) in
    let other : takes_part f e.other ≡ false =
    apart f (es ++ e ∷ fs) e.other round.1 round.2 (busy_in es fs e e.other (or_right (eqb e.other e.one) (eqb e.other e.other) (eq-eqb e.other e.other refl))) in
    part_knows (after_one K f) es fs e round.3 n m part
    ∙ (λ i. unmoved K f e.one m one i || unmoved K f e.other m other i)
