-- The rounds of up to sixteen nodes, gone over by computing.
use Rattle.std.proofs.Common.{◌≡◌, ℕ, zero, suc, ◌+◌, ◌-◌, ◌%◌, ◌^◌, ◌<◌, ◌≤◌, Bool, true, List, [], ◌∷◌, length, refl, arith, ⊎_elim, ap, ◌∙◌, eqb, ltb}
use Rattle.std.specs.Prelude.{◌&&◌, ◌||◌, not}
use Rattle.std.proofs.Math.Pow.{pow_mono}
use Rattle.std.proofs.lemmas.Bool.{and_parts, or_cases, cases_eq, cases_lt, not-true, eqb-true, eqb-false, ltb-true}
use Rattle.agreement.specs.Rounds.{Exchange, Known, KnowAll, is_busy, IsRound, AreRounds, AreOfFirst, exchanges_of, after_rounds}
use Rattle.agreement.specs.Schedules.{four_rounds, log_up, rounds_for}
use Rattle.agreement.proofs.Doubling.{one_needs}

-- whether the test holds of all numbers below n
abbrev pub holds_below : ℕ → (ℕ → Bool) → Bool
holds_below zero test = true
holds_below (suc n) test = test n && holds_below n test

pub holds_below-each : (n : ℕ) (test : ℕ → Bool) → holds_below n test ≡ true → (m : ℕ) → m < n → test m ≡ true
holds_below-each zero test e m lt = absurd (omega (arith, lt))
holds_below-each (suc n) test e m lt =
    let parts : (test n ≡ true) × (holds_below n test ≡ true) = and_parts (test n) (holds_below n test) e in
    ⊎_elim
    (λ same. ap test same ∙ parts.0)
    (λ ne. holds_below-each n test parts.1 m (omega (arith, lt, ne)))
    (cases_eq m n)

pub KnowAll-from : (many : ℕ) (K : Known) → holds_below many (λ n. holds_below many (λ m. K n m)) ≡ true → KnowAll many K
KnowAll-from many K e n m low less =
    holds_below-each many (λ x. K n x) (holds_below-each many (λ y. holds_below many (λ x. K y x)) e n low) m less

-- ---- rounds by a test

pub is_round : List Exchange → Bool
is_round [] = true
is_round (e ∷ es) = not (eqb e.one e.other) && (not (is_busy es e.one) && (not (is_busy es e.other) && is_round es))

pub IsRound-from : (es : List Exchange) → is_round es ≡ true → IsRound es
unfolding is_round
IsRound-from [] e = tt
IsRound-from (x ∷ xs) e =
    let first = and_parts (not (eqb x.one x.other)) (not (is_busy xs x.one) && (not (is_busy xs x.other) && is_round xs)) e in
    let second = and_parts (not (is_busy xs x.one)) (not (is_busy xs x.other) && is_round xs) first.1 in
    let third = and_parts (not (is_busy xs x.other)) (is_round xs) second.1 in (
      eqb-false x.one x.other (not-true (eqb x.one x.other) first.0),
      not-true (is_busy xs x.one) second.0,
      not-true (is_busy xs x.other) third.0,
      IsRound-from xs third.1,
    )

pub are_rounds : List (List Exchange) → Bool
are_rounds [] = true
are_rounds (r ∷ rs) = is_round r && are_rounds rs

pub AreRounds-from : (rs : List (List Exchange)) → are_rounds rs ≡ true → AreRounds rs
unfolding are_rounds
AreRounds-from [] e = tt
AreRounds-from (r ∷ rs) e =
    let parts : (is_round r ≡ true) × (are_rounds rs ≡ true) = and_parts (is_round r) (are_rounds rs) e in
    (IsRound-from r parts.0, AreRounds-from rs parts.1)

pub are_of_first : ℕ → List Exchange → Bool
are_of_first many [] = true
are_of_first many (e ∷ es) = ltb e.one many && (ltb e.other many && are_of_first many es)

pub AreOfFirst-from : (many : ℕ) (es : List Exchange) → are_of_first many es ≡ true → AreOfFirst many es
unfolding are_of_first
AreOfFirst-from many [] e = tt
AreOfFirst-from many (x ∷ xs) e =
    let first : (ltb x.one many ≡ true) × ((ltb x.other many && are_of_first many xs) ≡ true) = and_parts (ltb x.one many) (ltb x.other many && are_of_first many xs) e in
    let second : (ltb x.other many ≡ true) × (are_of_first many xs ≡ true) = and_parts (ltb x.other many) (are_of_first many xs) first.1 in
    (ltb-true x.one many first.0, ltb-true x.other many second.0, AreOfFirst-from many xs second.1)

-- ---- the hypercube

pub four_agree : KnowAll 16 (after_rounds four_rounds)
four_agree = KnowAll-from 16 (after_rounds four_rounds) refl

pub four_are : AreRounds four_rounds
unfolding are_rounds is_round
four_are = AreRounds-from four_rounds refl

-- ---- any number up to sixteen

-- a test that holds from 2 to 16
from_two : (test : ℕ → Bool) → holds_below 17 (λ n. ltb n 2 || test n) ≡ true → (many : ℕ) → 2 ≤ many → many ≤ 16 → test many ≡ true
from_two test e many least most =
    ⊎_elim
    (λ low. let less : many < 2 = ltb-true many 2 low in absurd (omega (arith, least, less)))
    (λ holds. holds)
    (or_cases (ltb many 2) (test many) (holds_below-each 17 (λ n. ltb n 2 || test n) e many (omega (arith, most))))

pub rounds_are : (many : ℕ) → 2 ≤ many → many ≤ 16 → AreRounds (rounds_for many)
unfolding are_rounds is_round
rounds_are many least most = AreRounds-from (rounds_for many) (from_two (λ n. are_rounds (rounds_for n)) refl many least most)

pub rounds_of_first : (many : ℕ) → 2 ≤ many → many ≤ 16 → AreOfFirst many (exchanges_of (rounds_for many))
unfolding are_of_first
rounds_of_first many least most = AreOfFirst-from many (exchanges_of (rounds_for many)) (from_two (λ n. are_of_first n (exchanges_of (rounds_for n))) refl many least most)

pub rounds_number : (many : ℕ) → 2 ≤ many → many ≤ 16 → length (rounds_for many) ≡ log_up many + many % 2
rounds_number many least most = eqb-true (length (rounds_for many)) (log_up many + many % 2) (from_two (λ n. eqb (length (rounds_for n)) (log_up n + n % 2)) refl many least most)

pub rounds_agree : (many : ℕ) → 2 ≤ many → many ≤ 16 → KnowAll many (after_rounds (rounds_for many))
rounds_agree many least most = KnowAll-from many (after_rounds (rounds_for many)) (from_two (λ k. holds_below k (λ n. holds_below k (λ m. after_rounds (rounds_for k) n m))) refl many least most)

log_up-least : (many : ℕ) → 2 ≤ many → many ≤ 16 → 2 ^ (log_up many - 1) < many
log_up-least many least most = ltb-true (2 ^ (log_up many - 1)) many (from_two (λ n. ltb (2 ^ (log_up n - 1)) n) refl many least most)

-- fewer powers of 2 are not enough
pub enough_rounds : (many : ℕ) → 2 ≤ many → many ≤ 16 → (count : ℕ) → many ≤ 2 ^ count → log_up many ≤ count
enough_rounds many least most count enough =
    ⊎_elim
    (λ (few : count < log_up many).
    let before : count ≤ log_up many - 1 = omega (arith, few) in
    let less : 2 ^ count ≤ 2 ^ (log_up many - 1) = pow_mono before in
    let low : 2 ^ (log_up many - 1) < many = log_up-least many least most in
    absurd (omega (arith, enough, less, low)))
    (λ (many_enough : log_up many ≤ count). many_enough)
    (cases_lt count (log_up many))

pub rounds_fewest : (many : ℕ) → 2 ≤ many → many ≤ 16 → (rounds : List (List Exchange)) → AreRounds rounds → KnowAll many (after_rounds rounds) → length (rounds_for many) ≤ length rounds + many % 2
rounds_fewest many least most rounds are all =
    let enough : many ≤ 2 ^ length rounds = one_needs rounds are many 0 (λ m lt. all 0 m (omega (arith, least)) lt) in
    let number : length (rounds_for many) ≡ log_up many + many % 2 = rounds_number many least most in
    let needs : log_up many ≤ length rounds = enough_rounds many least most (length rounds) enough in
    omega (arith, number, needs)
