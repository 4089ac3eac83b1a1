-- Digests are bytes.
use Rattle.std.proofs.Common.{◌≡◌, ℕ, zero, suc, ◌<◌, List, [], ◌∷◌, length, get_or, All, arith}
use Rattle.std.specs.Int.{w32, to_be_bytes}
use Rattle.std.proofs.lemmas.List.Elements.{All-append, All-cons, All-get_or, All-nil}
use Rattle.sha2.specs.Sha256.{sha256, digest_bytes}
use Rattle.sha2.proofs.Facts256.{length-sha256}
use Rattle.hash_tree.specs.Tree.{leaf_of}

abbrev IsByte : ℕ → Type 0
IsByte n = n < 256

four : (a b c d : ℕ) → a < 256 → b < 256 → c < 256 → d < 256 → All IsByte (a ∷ b ∷ c ∷ d ∷ [])
four a b c d la lb lc ld =
    All-cons IsByte a (b ∷ c ∷ d ∷ []) la (All-cons IsByte b (c ∷ d ∷ []) lb (All-cons IsByte c (d ∷ []) lc (All-cons IsByte d [] ld (All-nil IsByte))))

word : (n : ℕ) → All IsByte (to_be_bytes w32 n)
word n = four _ _ _ _ (omega arith) (omega arith) (omega arith) (omega arith)

words : (h : List ℕ) (n : ℕ) → All IsByte (digest_bytes h n)
unfolding digest_bytes
words h zero = All-nil IsByte
words h (suc n) = All-append IsByte (digest_bytes h n) (to_be_bytes w32 (get_or h n 0)) (words h n) (word (get_or h n 0))

digest_is_bytes : (m : List ℕ) → All IsByte (sha256 m)
unfolding sha256
digest_is_bytes m = words _ 8

-- a key stands in one of 256 leaves
pub one_of_256 : (key : List ℕ) → leaf_of key < 256
one_of_256 key =
    let long : length (sha256 key) ≡ 32 = length-sha256 key in
    All-get_or IsByte (sha256 key) 0 0 (omega arith) (digest_is_bytes key)
