-- HMAC with SHA-256 (RFC 2104, section 2), whose block has 64 bytes, for keys of at most a block.
use Rattle.std.specs.Prelude.{ℕ, List, ◌-◌, ◌++◌, length, map, replicate, bit_xor}
use Rattle.sha2.specs.Sha256.{sha256}

-- the key, with zeros appended to its end up to the length of a block (step 1)
abbrev pub block_of : List ℕ → List ℕ
block_of key = key ++ replicate (64 - length key) 0

-- the exclusive or of each byte with the byte of a pad
abbrev pub padded : ℕ → List ℕ → List ℕ
padded pad bytes = map (λ byte. bit_xor byte pad) bytes

-- the block of the key under ipad, the byte 0x36 (step 2)
abbrev pub ipad_key : List ℕ → List ℕ
ipad_key key = padded 0x36 (block_of key)

-- the block of the key under opad, the byte 0x5C (step 5)
abbrev pub opad_key : List ℕ → List ℕ
opad_key key = padded 0x5C (block_of key)

-- H(K XOR opad, H(K XOR ipad, text))
unfoldable pub hmac : List ℕ → List ℕ → List ℕ
hmac key text = sha256 (opad_key key ++ sha256 (ipad_key key ++ text))
