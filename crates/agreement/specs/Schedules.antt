-- Rounds that make up to sixteen nodes know all.
use Rattle.std.specs.Prelude.{ℕ, zero, suc, ◌+◌, ◌-◌, ◌%◌, ◌/◌, ◌^◌, ◌==◌, if◌then◌else◌, nat_lt, bit_xor, List, [], ◌∷◌, ◌++◌, length, map, filter}
use Rattle.agreement.specs.Rounds.{Exchange}

-- the numbers below n, rising
abbrev pub below : ℕ → List ℕ
below zero = []
below (suc n) = below n ++ n ∷ []

-- ---- a power of 2

-- the round of the hypercube along dimension d: each i below `many` exchanges with i xor 2^d
abbrev pub cube_round : ℕ → ℕ → List Exchange
cube_round many d =
    map (λ i. record { one = i; other = bit_xor i (2 ^ d) })
    (filter (λ i. nat_lt i (bit_xor i (2 ^ d))) (below many))

abbrev pub four_rounds : List (List Exchange)
four_rounds = map (cube_round 16) (below 4)

-- ---- any number

-- the logarithm to base 2, rounded up: how many powers of 2 are below n
abbrev pub log_up : ℕ → ℕ
log_up n = length (filter (λ d. nat_lt (2 ^ d) n) (below n))

-- an even number of nodes, in two halves: in round d node j of the first half exchanges with that
-- of the second which is 2^d - 1 places on, in a circle. The schedule is a known one; that it
-- suffices is proved here
abbrev pub halves_round : ℕ → ℕ → List Exchange
halves_round many d =
    let half : ℕ = many / 2 in
    map (λ j. record { one = j; other = half + (j + (2 ^ d - 1)) % half }) (below half)

abbrev pub even_rounds : ℕ → List (List Exchange)
even_rounds many = map (halves_round many) (below (log_up many))

-- an odd number: each node from the greatest power of 2 on exchanges with one below it, those below
-- it go through the hypercube, and the first exchanges are made once more
abbrev pub odd_rounds : ℕ → List (List Exchange)
odd_rounds many =
    let dimensions : ℕ = log_up many - 1 in
    let power : ℕ = 2 ^ dimensions in
    let late : List Exchange =
    map (λ i. record { one = i; other = power + i }) (below (many - power)) in
    late ∷ (map (cube_round power) (below dimensions) ++ late ∷ [])

abbrev pub rounds_for : ℕ → List (List Exchange)
rounds_for many = if many % 2 == 0 then even_rounds many else odd_rounds many
