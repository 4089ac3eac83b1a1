-- The most that a node knows at most doubles in a round.
use Rattle.std.proofs.Common.{◌≡◌, ℕ, zero, suc, ◌+◌, ◌*◌, ◌^◌, ◌<◌, ◌≤◌, Bool, true, false, cond, List, [], ◌∷◌, ◌++◌, length, sym, ap, refl, subst, ◌∙◌, arith, ⊎_elim, eqb}
use Rattle.std.specs.Prelude.{◌||◌}
use Rattle.std.proofs.Math.Nat.{pow-suc}
use Rattle.std.proofs.lemmas.Bool.{false≢true, or_left, or_right, or_cases, eqb-true, eq-eqb, ne_eqb}
use Rattle.agreement.specs.Rounds.{Exchange, Known, own, takes_part, after_one, after_all, count_known, is_busy, IsRound, AreRounds, exchanges_of, after_rounds, KnowAll}

-- ---- counting

abbrev pub one_if : Bool → ℕ
one_if b = cond b 1 0

one_or : (a b : Bool) → one_if (a || b) ≤ one_if a + one_if b
one_or true b = omega arith
one_or false b = omega arith

pub count_known-or : (many : ℕ) (f g : ℕ → Bool) → count_known many (λ m. f m || g m) ≤ count_known many f + count_known many g
count_known-or zero f g = omega arith
count_known-or (suc m) f g =
    let rest : count_known m (λ x. f x || g x) ≤ count_known m f + count_known m g = count_known-or m f g in
    let here : one_if (f m || g m) ≤ one_if (f m) + one_if (g m) = one_or (f m) (g m) in
    omega (arith, rest, here)

pub count_known-all : (many : ℕ) (f : ℕ → Bool) → ((m : ℕ) → m < many → f m ≡ true) → count_known many f ≡ many
count_known-all zero f all = refl
count_known-all (suc m) f all =
    let rest : count_known m f ≡ m = count_known-all m f (λ x lt. all x (omega (arith, lt))) in
    let here : one_if (f m) ≡ 1 = ap one_if (all m (omega arith)) in
    omega (arith, rest, here)

none_below : (many n : ℕ) → many ≤ n → count_known many (own n) ≡ 0
none_below zero n le = refl
none_below (suc m) n le =
    let rest : count_known m (own n) ≡ 0 = none_below m n (omega (arith, le)) in
    let here : one_if (eqb n m) ≡ 0 = ap one_if (ne_eqb n m (λ e. absurd (omega (arith, le, e)))) in
    omega (arith, rest, here)

pub own-one : (many n : ℕ) → count_known many (own n) ≤ 1
own-one zero n = omega arith
own-one (suc m) n =
    elim (eqb n m) as (λ b. eqb n m ≡ b → cond b 1 0 + count_known m (own n) ≤ 1) [
      | true ↦ λ e.
          let same : n ≡ m = eqb-true n m e in
          let rest : count_known m (own n) ≡ 0 = none_below m n (omega (arith, same)) in
          omega (arith, rest)
      | false ↦ λ e. let rest : count_known m (own n) ≤ 1 = own-one m n in omega (arith, rest)
    ] refl

-- ---- a round

-- a node that takes part in a later exchange of the round takes no part in this one
pub apart : (e : Exchange) (es : List Exchange) (n : ℕ) → is_busy es e.one ≡ false → is_busy es e.other ≡ false → is_busy es n ≡ true → takes_part e n ≡ false
apart e es n one other busy =
    elim (takes_part e n) as (λ b. takes_part e n ≡ b → b ≡ false) [
      | true ↦ λ t.
          ⊎_elim
          (λ f. absurd (false≢true (sym one ∙ ap (is_busy es) (sym (eqb-true n e.one f)) ∙ busy)))
          (λ f. absurd (false≢true (sym other ∙ ap (is_busy es) (sym (eqb-true n e.other f)) ∙ busy)))
          (or_cases (eqb n e.one) (eqb n e.other) t)
      | false ↦ λ t. refl
    ] refl

unmoved : (many : ℕ) (K : Known) (e : Exchange) (n : ℕ) → takes_part e n ≡ false → count_known many (after_one K e n) ≡ count_known many (K n)
unmoved many K e n idle = ap (λ b. count_known many (λ m. cond b (K e.one m || K e.other m) (K n m))) idle

one_doubles : (many c : ℕ) (K : Known) (e : Exchange) → count_known many (K e.one) ≤ c → count_known many (K e.other) ≤ c → ((n : ℕ) → count_known many (K n) ≤ c + c) → (n : ℕ) → count_known many (after_one K e n) ≤ c + c
one_doubles many c K e one other all n =
    elim (takes_part e n) as (λ b. count_known many (λ m. cond b (K e.one m || K e.other m) (K n m)) ≤ c + c) [
      | true ↦
          let both : count_known many (λ m. K e.one m || K e.other m) ≤ count_known many (K e.one) + count_known many (K e.other) = count_known-or many (K e.one) (K e.other) in
          omega (arith, both, one, other)
      | false ↦ all n
    ]

round_doubles : (many c : ℕ) (K : Known) (es : List Exchange) → IsRound es → ((n : ℕ) → is_busy es n ≡ true → count_known many (K n) ≤ c) → ((n : ℕ) → count_known many (K n) ≤ c + c) → (n : ℕ) → count_known many (after_all K es n) ≤ c + c
round_doubles many c K [] round busy all n = all n
round_doubles many c K (e ∷ es) round busy all n =
    let one : count_known many (K e.one) ≤ c =
    busy e.one (or_left (takes_part e e.one) (is_busy es e.one) (or_left (eqb e.one e.one) (eqb e.one e.other) (eq-eqb e.one e.one refl))) in
    let other : count_known many (K e.other) ≤ c =
    busy e.other (or_left (takes_part e e.other) (is_busy es e.other) (or_right (eqb e.other e.one) (eqb e.other e.other) (eq-eqb e.other e.other refl))) in
    round_doubles many c (after_one K e) es round.3
    (λ m later.
    let same : count_known many (after_one K e m) ≡ count_known many (K m) = unmoved many K e m (apart e es m round.1 round.2 later) in
    let low : count_known many (K m) ≤ c = busy m (or_right (takes_part e m) (is_busy es m) later) in
    omega (arith, same, low))
    (one_doubles many c K e one other all) n

pub after_all-append : (K : Known) (es fs : List Exchange) → after_all K (es ++ fs) ≡ after_all (after_all K es) fs
after_all-append K [] fs = refl
after_all-append K (e ∷ es) fs = after_all-append (after_one K e) es fs

-- ---- rounds

doubled : (k : ℕ) → 2 ^ k + 2 ^ k ≡ 2 ^ (k + 1)
doubled k =
    let next : k + 1 ≡ suc k = omega arith in
    let power : 2 ^ suc k ≡ 2 ^ k * 2 = pow-suc 2 k in
    let there : 2 ^ (k + 1) ≡ 2 ^ suc k = ap (λ x. 2 ^ x) next in
    omega (arith, power, there)

rounds_double : (many k : ℕ) (K : Known) (rounds : List (List Exchange)) → AreRounds rounds → ((n : ℕ) → count_known many (K n) ≤ 2 ^ k) → (n : ℕ) → count_known many (after_all K (exchanges_of rounds) n) ≤ 2 ^ (k + length rounds)
rounds_double many k K [] are all n = subst (λ x. count_known many (K n) ≤ 2 ^ x) (let e : k ≡ k + 0 = omega arith in e) (all n)
rounds_double many k K (r ∷ rs) are all n =
    let next : (m : ℕ) → count_known many (after_all K r m) ≤ 2 ^ (k + 1) =
    λ m. subst (λ x. count_known many (after_all K r m) ≤ x) (doubled k)
    (round_doubles many (2 ^ k) K r are.0 (λ x busy. all x) (λ x. let low : count_known many (K x) ≤ 2 ^ k = all x in omega (arith, low)) m) in
    subst (λ f. count_known many (f n) ≤ 2 ^ (k + length (r ∷ rs))) (sym (after_all-append K r (exchanges_of rs)))
    (subst (λ x. count_known many (after_all (after_all K r) (exchanges_of rs) n) ≤ 2 ^ x) (let e : k + 1 + length rs ≡ k + suc (length rs) = omega arith in e)
    (rounds_double many (k + 1) (after_all K r) rs are.1 next n))

pub doubles : (rounds : List (List Exchange)) → AreRounds rounds → (many n : ℕ) → count_known many (after_rounds rounds n) ≤ 2 ^ length rounds
doubles rounds are many n =
    subst (λ x. count_known many (after_rounds rounds n) ≤ 2 ^ x) (let e : 0 + length rounds ≡ length rounds = omega arith in e)
    (rounds_double many 0 own rounds are (own-one many) n)

pub one_needs : (rounds : List (List Exchange)) → AreRounds rounds → (many n : ℕ) → ((m : ℕ) → m < many → after_rounds rounds n m ≡ true) → many ≤ 2 ^ length rounds
one_needs rounds are many n all =
    subst (λ x. x ≤ 2 ^ length rounds) (count_known-all many (after_rounds rounds n) all) (doubles rounds are many n)

not_three : (rounds : List (List Exchange)) → 16 ≤ 2 ^ length rounds → 4 ≤ length rounds
not_three [] le = absurd (omega (arith, le))
not_three (a ∷ []) le = absurd (omega (arith, le))
not_three (a ∷ b ∷ []) le = absurd (omega (arith, le))
not_three (a ∷ b ∷ c ∷ []) le = absurd (omega (arith, le))
not_three (a ∷ b ∷ c ∷ d ∷ rs) le = omega arith

pub sixteen_need : (rounds : List (List Exchange)) → AreRounds rounds → KnowAll 16 (after_rounds rounds) → 4 ≤ length rounds
sixteen_need rounds are all = not_three rounds (one_needs rounds are 16 0 (λ m lt. all 0 m (omega arith) lt))
