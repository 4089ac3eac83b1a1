-- An odd number of nodes needs one round more, if no other node takes part.
use Rattle.std.proofs.Common.{◌≡◌, ◌≢◌, ℕ, zero, suc, ◌+◌, ◌*◌, ◌%◌, ◌^◌, ◌<◌, ◌≤◌, Bool, true, false, List, [], ◌∷◌, ◌++◌, length, length-append, append-nil, append_assoc, inl, inr, ⊎_elim, refl, sym, ap, subst, ◌∙◌, arith, eqb}
use Rattle.std.specs.Prelude.{◌||◌, ◌⊎◌}
use Rattle.std.proofs.lemmas.Bool.{false≢true, cases_Bool, cases_eq, ne_eqb, or_from}
use Rattle.agreement.specs.Rounds.{AreOfFirst, AreRounds, Exchange, IsRound, KnowAll, after_all, after_rounds, count_known, exchanges_of, is_busy, own}
use Rattle.agreement.specs.Schedules.{log_up, rounds_for}
use Rattle.agreement.proofs.Along.{count_more, count_none, count_same}
use Rattle.agreement.proofs.Cube.{enough_rounds, rounds_fewest, rounds_number}
use Rattle.agreement.proofs.Doubling.{after_all-append, count_known-all, one_needs}
use Rattle.agreement.proofs.Passing.{or-assoc}
use Rattle.agreement.proofs.Together.{idle_stays}

-- ---- a round of an odd number of nodes leaves one idle

-- all of the first nodes are busy, or one is idle
all_or_idle : (many : ℕ) (busy : ℕ → Bool) → ((m : ℕ) → m < many → busy m ≡ true) ⊎ ((m : ℕ) × ((m < many) × (busy m ≡ false)))
all_or_idle zero busy = inl (λ m lt. absurd (omega (arith, lt)))
all_or_idle (suc many) busy =
    ⊎_elim
    (λ (all : (m : ℕ) → m < many → busy m ≡ true).
    ⊎_elim
    (λ here. inl (λ m lt. ⊎_elim (λ (same : m ≡ many). ap busy same ∙ here) (λ (other : m ≢ many). all m (omega (arith, lt, other))) (cases_eq m many)))
    (λ idle. inr (many, (omega arith, idle)))
    (cases_Bool (busy many)))
    (λ found. inr (found.0, (omega (arith, found.1.0), found.1.1)))
    (all_or_idle many busy)

-- two nodes are busy for each exchange
count_busy : (many : ℕ) (es : List Exchange) → IsRound es → AreOfFirst many es → count_known many (is_busy es) ≡ 2 * length es
count_busy many [] round first = count_none many
count_busy many (e ∷ es) round first =
    let rest : count_known many (is_busy es) ≡ 2 * length es = count_busy many es round.3 first.2 in
    let with_other : count_known many (λ m. eqb m e.other || is_busy es m) ≡ count_known many (is_busy es) + 1 = count_more many e.other (is_busy es) first.1 round.2 in
    let with_both : count_known many (λ m. eqb m e.one || (eqb m e.other || is_busy es m)) ≡ count_known many (λ m. eqb m e.other || is_busy es m) + 1 =
    count_more many e.one (λ m. eqb m e.other || is_busy es m) first.0 (or_from (eqb e.one e.other) (is_busy es e.one) (ne_eqb e.one e.other round.0) round.1) in
    let same : count_known many (is_busy (e ∷ es)) ≡ count_known many (λ m. eqb m e.one || (eqb m e.other || is_busy es m)) =
    count_same many (is_busy (e ∷ es)) (λ m. eqb m e.one || (eqb m e.other || is_busy es m)) (λ m lt. or-assoc (eqb m e.one) (eqb m e.other) (is_busy es m)) in
    omega (arith, rest, with_other, with_both, same)

one_idle : (many : ℕ) (es : List Exchange) → many % 2 ≡ 1 → IsRound es → AreOfFirst many es → (n : ℕ) × ((n < many) × (is_busy es n ≡ false))
one_idle many es odd round first =
    ⊎_elim
    (λ (all : (m : ℕ) → m < many → is_busy es m ≡ true).
    let busy : count_known many (is_busy es) ≡ 2 * length es = count_busy many es round first in
    let whole : count_known many (is_busy es) ≡ many = count_known-all many (is_busy es) all in
    absurd (omega (arith, odd, busy, whole)))
    (λ found. found)
    (all_or_idle many (is_busy es))

-- ---- the last round

split_last : (r : List Exchange) (rs : List (List Exchange)) → (front : List (List Exchange)) × ((last : List Exchange) × (r ∷ rs ≡ front ++ last ∷ []))
split_last r [] = ([], (r, refl))
split_last r (s ∷ rs) =
    let rest = split_last s rs in
    (r ∷ rest.0, (rest.1.0, ap (λ l. r ∷ l) rest.1.1))

exchanges_append : (xs ys : List (List Exchange)) → exchanges_of (xs ++ ys) ≡ exchanges_of xs ++ exchanges_of ys
exchanges_append [] ys = refl
exchanges_append (x ∷ xs) ys = ap (λ l. x ++ l) (exchanges_append xs ys) ∙ sym (append_assoc x (exchanges_of xs) (exchanges_of ys))

are_parts : (xs ys : List (List Exchange)) → AreRounds (xs ++ ys) → AreRounds xs × AreRounds ys
are_parts [] ys are = (tt, are)
are_parts (x ∷ xs) ys are = let rest = are_parts xs ys are.1 in ((are.0, rest.0), rest.1)

first_back : (many : ℕ) (xs ys : List Exchange) → AreOfFirst many (xs ++ ys) → AreOfFirst many ys
first_back many [] ys first = first
first_back many (x ∷ xs) ys first = first_back many xs ys first.2

-- who is idle in the last round knows all before it
before_last : (many : ℕ) → many % 2 ≡ 1 → (front : List (List Exchange)) (last : List Exchange) → AreRounds (front ++ last ∷ []) → AreOfFirst many (exchanges_of (front ++ last ∷ []))
    → KnowAll many (after_rounds (front ++ last ∷ [])) → many ≤ 2 ^ length front
before_last many odd front last are first all =
    let parts = are_parts front (last ∷ []) are in
    let whole : exchanges_of (front ++ last ∷ []) ≡ exchanges_of front ++ last = exchanges_append front (last ∷ []) ∙ ap (λ l. exchanges_of front ++ l) (append-nil last) in
    let idle = one_idle many last odd parts.1.0 (first_back many (exchanges_of front) last (subst (AreOfFirst many) whole first)) in
    one_needs front parts.0 many idle.0
    (λ m lt.
    sym (idle_stays (after_rounds front) last idle.0 m idle.1.1)
    ∙ sym (ap (λ f. f idle.0 m) (after_all-append own (exchanges_of front) last))
    ∙ sym (ap (λ es. after_all own es idle.0 m) whole)
    ∙ all idle.0 m idle.1.0 lt)

-- ---- how many rounds

-- so an odd number needs one more than the logarithm
odd_needs : (many : ℕ) → 2 ≤ many → many ≤ 16 → many % 2 ≡ 1 → (rounds : List (List Exchange)) → AreRounds rounds → AreOfFirst many (exchanges_of rounds)
    → KnowAll many (after_rounds rounds) → log_up many + 1 ≤ length rounds
odd_needs many least most odd [] are first all = absurd (false≢true (all 0 1 (omega (arith, least)) (omega (arith, least))))
odd_needs many least most odd (r ∷ rs) are first all =
    let s = split_last r rs in
    let few : many ≤ 2 ^ length s.0 =
    before_last many odd s.0 s.1.0 (subst AreRounds s.1.1 are) (subst (λ rounds. AreOfFirst many (exchanges_of rounds)) s.1.1 first) (subst (λ rounds. KnowAll many (after_rounds rounds)) s.1.1 all) in
    let enough : log_up many ≤ length s.0 = enough_rounds many least most (length s.0) few in
    let long : length (r ∷ rs) ≡ length s.0 + 1 = ap length s.1.1 ∙ length-append s.0 (s.1.0 ∷ []) in
    omega (arith, enough, long)

pub fewest_among : (many : ℕ) → 2 ≤ many → many ≤ 16 → (rounds : List (List Exchange)) → AreRounds rounds → AreOfFirst many (exchanges_of rounds)
    → KnowAll many (after_rounds rounds) → length (rounds_for many) ≤ length rounds
fewest_among many least most rounds are first all =
    let number : length (rounds_for many) ≡ log_up many + many % 2 = rounds_number many least most in
    ⊎_elim
    (λ (odd : many % 2 ≡ 1). let needs : log_up many + 1 ≤ length rounds = odd_needs many least most odd rounds are first all in omega (arith, number, odd, needs))
    (λ (even : many % 2 ≢ 1). let few : length (rounds_for many) ≤ length rounds + many % 2 = rounds_fewest many least most rounds are all in omega (arith, few, even))
    (cases_eq (many % 2) 1)
