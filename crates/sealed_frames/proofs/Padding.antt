-- The key's block under a pad, byte by byte.
use Rattle.std.proofs.Common.{◌≡◌, ℕ, zero, suc, ◌+◌, ◌-◌, ◌<◌, List, [], ◌∷◌, ◌++◌, length, get_or, set, take, replicate, refl, sym, ap, ◌∙◌, arith, append_assoc}
use Rattle.std.specs.Prelude.{bit_xor}
use Rattle.std.specs.Int.Bits.{xor_zero_l}
use Rattle.std.proofs.lemmas.List.{length-map, map-append, length-take-le, set_at, take_more, take_all}
use Rattle.sealed_frames.specs.Hmac.{block_of, padded}

-- the block with the first `done` bytes of the key under the pad
abbrev pub padded_so_far : List ℕ → ℕ → ℕ → List ℕ
padded_so_far key pad done = padded pad (take done key) ++ replicate (64 - done) pad

pub one_more : (key : List ℕ) (pad done : ℕ) → done < length key → length key ≡ 32
    → set (padded_so_far key pad done) done (bit_xor (get_or key done 0) pad) ≡ padded_so_far key pad (done + 1)
one_more key pad done low len =
    let byte : ℕ = bit_xor (get_or key done 0) pad in
    let front : List ℕ = padded pad (take done key) in
    let rest : List ℕ = replicate (63 - done) pad in
    let at : length front ≡ done = length-map (take done key) (λ b. bit_xor b pad) ∙ length-take-le done key (omega arith) in
    let left : 64 - done ≡ suc (63 - done) = omega arith in
    let less : 64 - (done + 1) ≡ 63 - done = omega arith in
    let longer : padded pad (take (done + 1) key) ≡ front ++ byte ∷ [] =
    ap (padded pad) (take_more key done 0 low) ∙ map-append (λ b. bit_xor b pad) (take done key) (get_or key done 0 ∷ []) in
    ap (λ n. set (front ++ replicate n pad) done byte) left
    ∙ set_at front pad rest byte done at
    ∙ sym (append_assoc front (byte ∷ []) rest)
    ∙ ap (λ x. x ++ rest) (sym longer)
    ∙ ap (λ n. padded pad (take (done + 1) key) ++ replicate n pad) (sym less)

padded_zeros : (n pad : ℕ) → padded pad (replicate n 0) ≡ replicate n pad
padded_zeros zero pad = refl
padded_zeros (suc n) pad = (λ i. xor_zero_l pad i ∷ padded_zeros n pad i)

pub all_done : (key : List ℕ) (pad done : ℕ) → length key ≡ 32 → done ≡ length key → padded_so_far key pad done ≡ padded pad (block_of key)
all_done key pad done len e =
    let whole : take done key ≡ key = take_all done key (omega arith) in
    let zeros : 64 - done ≡ 64 - length key = omega arith in
    (λ i. padded pad (whole i) ++ replicate (zeros i) pad)
    ∙ ap (λ x. padded pad key ++ x) (sym (padded_zeros (64 - length key) pad))
    ∙ sym (map-append (λ b. bit_xor b pad) key (replicate (64 - length key) 0))
