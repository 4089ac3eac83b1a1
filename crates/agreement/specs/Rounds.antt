-- Exchanges between two nodes each, and what each node knows after them. Each node begins with
-- something that no other knows, and two that exchange then both know what either knew. The problem
-- is an old one, known as gossiping by telephone; what is said of it here is proved here.
use Rattle.std.specs.Prelude.{◌≡◌, ◌≢◌, ℕ, zero, suc, ◌+◌, ◌<◌, ◌==◌, if◌then◌else◌, List, [], ◌∷◌, ◌++◌, Bool, true, false, ◌||◌, ◌&&◌}
use Rattle.std.specs.List.{list_any}

-- two nodes that exchange what they know
pub record Exchange : Type 0 where
  pub one : ℕ
  pub other : ℕ

-- whether node n knows what node m knew at first
abbrev pub Known : Type 0
Known = ℕ → ℕ → Bool

-- at first each node knows its own
abbrev pub own : Known
own n m = n == m

-- whether a node is one of the two
abbrev pub takes_part : Exchange → ℕ → Bool
takes_part e n = n == e.one || n == e.other

-- both know what either knew, and no other node learns anything
abbrev pub after_one : Known → Exchange → Known
after_one K e n m = if takes_part e n then K e.one m || K e.other m else K n m

-- after exchanges, one after the other
abbrev pub after_all : Known → List Exchange → Known
after_all K [] = K
after_all K (e ∷ es) = after_all (after_one K e) es

-- whether two nodes took part in one of these exchanges
abbrev pub have_met : List Exchange → ℕ → ℕ → Bool
have_met es n m = list_any (λ e. takes_part e n && takes_part e m) es

-- the first nodes, as many as that: each knows what each knew
abbrev pub KnowAll : ℕ → Known → Type 0
KnowAll many K = (n m : ℕ) → n < many → m < many → K n m ≡ true

-- how many of the first nodes there are of which a node knows what they knew
abbrev pub count_known : ℕ → (ℕ → Bool) → ℕ
count_known zero knows = 0
count_known (suc m) knows = (if knows m then 1 else 0) + count_known m knows

-- ---- rounds

-- whether a node takes part in one of them
abbrev pub is_busy : List Exchange → ℕ → Bool
is_busy es n = list_any (λ e. takes_part e n) es

-- a round: exchanges of two nodes each that don't touch one another, so that all may run at once
abbrev pub IsRound : List Exchange → Type 0
IsRound [] = Unit {0}
IsRound (e ∷ es) =
    (e.one ≢ e.other) × (is_busy es e.one ≡ false) × (is_busy es e.other ≡ false) × IsRound es

abbrev pub AreRounds : List (List Exchange) → Type 0
AreRounds [] = Unit {0}
AreRounds (r ∷ rs) = IsRound r × AreRounds rs

-- they are exchanges of the first nodes, as many as that
abbrev pub AreOfFirst : ℕ → List Exchange → Type 0
AreOfFirst many [] = Unit {0}
AreOfFirst many (e ∷ es) = (e.one < many) × (e.other < many) × AreOfFirst many es

-- the exchanges of rounds, one round after the other
abbrev pub exchanges_of : List (List Exchange) → List Exchange
exchanges_of [] = []
exchanges_of (r ∷ rs) = r ++ exchanges_of rs

-- what each node knows after rounds, if it knew its own at first
abbrev pub after_rounds : List (List Exchange) → Known
after_rounds rounds = after_all own (exchanges_of rounds)
