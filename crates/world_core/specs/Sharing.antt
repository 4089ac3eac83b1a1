-- How frames are kept: each as bytes of its own, and after them the end of an earlier one. Private
-- functions cite it. The rule is our own.
use Rattle.std.specs.Prelude.{◌≡◌, ℕ, ◌-◌, ◌<◌, ◌≤◌, ◌⊎◌, ◌++◌, List, [], ◌∷◌, drop, get_or, length}
use Rattle.world_core.specs.declared.frames.Kept.{Kept}

-- the last `count` elements of a list
abbrev pub ending : ℕ → List ℕ → List ℕ
ending count xs = drop (length xs - count) xs

-- the bytes of a frame, by those of the frames before it
abbrev pub bytes_over : List (List ℕ) → Kept → List ℕ
bytes_over before kept = kept.own.items ++ ending kept.shared (get_or before kept.of [])

-- the frames `before`, and after them the bytes of each frame that is kept
abbrev pub frames_after : List (List ℕ) → List Kept → List (List ℕ)
frames_after before [] = before
frames_after before (kept ∷ later) = frames_after (before ++ bytes_over before kept ∷ []) later

-- an earlier frame has the bytes that this one shares, and `len` is the length of this one
pub record IsShared (before : List (List ℕ)) (kept : Kept) : Type 0 where
  pub there : (kept.shared ≡ 0) ⊎ (kept.of < length before)
  pub within : kept.shared ≤ length (get_or before kept.of [])
  pub length : kept.len ≡ length (bytes_over before kept)

-- each frame is shared so, over the frames before it
abbrev pub AreShared : List (List ℕ) → List Kept → Type 0
AreShared before [] = Unit {0}
AreShared before (kept ∷ later) =
    IsShared before kept × AreShared (before ++ bytes_over before kept ∷ []) later

-- the last `count` bytes are those of the frame at the place, which is there unless `count` is 0
pub record HasEndOf (frames : List (List ℕ)) (place count : ℕ) (bytes : List ℕ) : Type 0 where
  pub there : (count ≡ 0) ⊎ (place < length frames)
  pub within : count ≤ length (get_or frames place [])
  pub few : count ≤ length bytes
  pub same : ending count (get_or frames place []) ≡ ending count bytes
