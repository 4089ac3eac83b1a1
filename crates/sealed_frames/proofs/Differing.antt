-- The bits in which two byte strings differ.
use Rattle.std.proofs.Common.{◌≡◌, ℕ, ◌+◌, ◌<◌, List, [], ◌∷◌, ◌++◌, length, get_or, take, sym, ap, ◌∙◌, arith}
use Rattle.std.specs.Prelude.{◌↔◌, bit_or, bit_xor}
use Rattle.std.specs.Int.Bits.{xor_add_and, xor_self}
use Rattle.std.proofs.lemmas.Nat.{and_le_l, and_le_r, le_or_l, le_or_r}
use Rattle.std.proofs.lemmas.List.{take_more, same_from_push}

no_bits : (a b : ℕ) → bit_xor a b ≡ 0 → a ≡ b
no_bits a b none =
    let sum = xor_add_and a b in
    let low = and_le_l a b in
    let high = and_le_r a b in
    omega (arith, none, sum, low, high)

neither : (a b : ℕ) → bit_or a b ≡ 0 → (a ≡ 0) × (b ≡ 0)
neither a b none = (omega (arith, none, le_or_l a b), omega (arith, none, le_or_r a b))

pub bits_more : (one other : List ℕ) (bits place : ℕ) → place < length one → length one ≡ length other
    → (bits ≡ 0) ↔ (take place one ≡ take place other)
    → (bit_or bits (bit_xor (get_or one place 0) (get_or other place 0)) ≡ 0) ↔ (take (place + 1) one ≡ take (place + 1) other)
bits_more one other bits place low len is =
    let a : ℕ = get_or one place 0 in
    let b : ℕ = get_or other place 0 in
    let more : take (place + 1) one ≡ take place one ++ a ∷ [] = take_more one place 0 low in
    let other_more : take (place + 1) other ≡ take place other ++ b ∷ [] = take_more other place 0 (omega arith) in (
      (λ (none : bit_or bits (bit_xor a b) ≡ 0).
          let parts = neither bits (bit_xor a b) none in
          more ∙ (λ i. is.0 parts.0 i ++ no_bits a b parts.1 i ∷ []) ∙ sym other_more),
      (λ (same : take (place + 1) one ≡ take (place + 1) other).
          let parts = same_from_push (take place one) (take place other) a b (sym more ∙ same ∙ other_more) in
          (λ i. bit_or (is.1 parts.0 i) (bit_xor (parts.1 i) b)) ∙ ap (bit_or 0) (xor_self b)),
    )
