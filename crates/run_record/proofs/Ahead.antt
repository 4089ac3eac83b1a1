-- How many entries are left.
use Rattle.std.proofs.Common.{◌≡◌, ◌<◌, ◌+◌, ◌-◌, ℕ, zero, suc, List, [], ◌∷◌, length, get_or, set, arith}
use Rattle.node_journal.specs.declared.entry.Entry.{Entry}

-- in the journals from that of this number on, one for each place
abbrev pub ahead : (ℕ → List Entry) → ℕ → List ℕ → ℕ
ahead journals n [] = 0
ahead journals n (p ∷ ps) = (length (journals n) - p) + ahead journals (suc n) ps

-- if a node goes on by an entry, fewer are left
pub ahead_less : (journals : ℕ → List Entry) (n : ℕ) (ps : List ℕ) (i : ℕ) → i < length ps
    → ((k : ℕ) → k ≡ n + i → get_or ps i 0 < length (journals k))
    → ahead journals n (set ps i (get_or ps i 0 + 1)) < ahead journals n ps
ahead_less journals n [] i lt below = absurd (omega arith)
ahead_less journals n (p ∷ ps) zero lt below =
    let b : p < length (journals n) = below n (omega arith) in
    omega arith
ahead_less journals n (p ∷ ps) (suc i) lt below =
    let rest = ahead_less journals (suc n) ps i (omega arith) (λ k is. below k (omega arith)) in
    omega arith
