-- What has a number: frames and reads are numbered from 1, in the order in which they came.
use Rattle.std.specs.Prelude.{ℕ, zero, suc, ◌-◌, List, take, drop, slice_get, Option, None}
use Rattle.world_core.specs.declared.answer.FrameNumbers.{FrameNumbers}

-- what has this number; the first has number 1
abbrev pub numbered : {A : Type 0} → List A → ℕ → Option A
numbered xs zero = None
numbered xs (suc before) = slice_get xs before

-- the frames of these numbers, as many as there are
abbrev pub frames_at : {A : Type 0} → FrameNumbers → List A → List A
frames_at numbers frames = take numbers.count (drop (numbers.first - 1) frames)
