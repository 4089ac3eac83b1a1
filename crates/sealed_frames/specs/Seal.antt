-- The seal of a frame, and which bytes open. The rule is our own, over HMAC.
use Rattle.std.specs.Prelude.{◌≡◌, ℕ, ◌-◌, ◌≤◌, ◌⊎◌, List, ◌++◌, Some, drop, length, take}
use Rattle.sealed_frames.specs.Hmac.{hmac}
use Rattle.sealed_frames.specs.declared.key.Keys.{Keys}

-- the seal of a frame under a key: the first 16 bytes of its HMAC, which are half of it
unfoldable pub seal_of : List ℕ → List ℕ → List ℕ
seal_of key frame = take 16 (hmac key frame)

-- a frame, and its seal behind it
abbrev pub sealed_frame : List ℕ → List ℕ → List ℕ
sealed_frame key frame = frame ++ seal_of key frame

-- of bytes the last 16, in which a seal stands
abbrev pub seal_in : List ℕ → List ℕ
seal_in bytes = drop (length bytes - 16) bytes

-- of bytes those before the last 16, in which a frame stands
abbrev pub frame_in : List ℕ → List ℕ
frame_in bytes = take (length bytes - 16) bytes

-- the last 16 bytes are the seal, under this key, of what stands before them
pub record IsSealedUnder (key bytes : List ℕ) : Type 0 where
  pub long : 16 ≤ length bytes
  pub seal : seal_in bytes ≡ seal_of key (frame_in bytes)

-- one of two keys: the current one, or the previous one if there is one
abbrev pub IsKeyOf : Keys → List ℕ → Type 0
IsKeyOf keys key = (keys.current ≡ key) ⊎ (keys.previous ≡ Some key)

-- the last 16 bytes are the seal, under one of the keys, of what stands before them
pub record IsSealed (keys : Keys) (bytes : List ℕ) : Type 0 where
  pub key : List ℕ
  pub is_key : IsKeyOf keys key
  pub under : IsSealedUnder key bytes
