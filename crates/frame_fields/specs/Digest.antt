use Rattle.std.specs.Prelude.{◌≡◌, ℕ, List, length}

-- how many bytes a digest has
abbrev pub digest_len : ℕ
digest_len = 32

-- a digest has 32 bytes
abbrev pub IsDigest : List ℕ → Type 0
IsDigest bytes = length bytes ≡ digest_len
