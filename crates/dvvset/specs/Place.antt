-- Where a writer's entry stands, or would stand: what private functions cite.
use Rattle.std.specs.Prelude.{ℕ, ◌<◌, ◌≤◌, List, length, get_or}
use Rattle.dvvset.specs.Object.{Entry}

-- the first `at` entries are of lower writers, and the entry there, if any, is not
pub record IsPlace (w : ℕ) (es : List Entry) (at : ℕ) : Type 0 where
  pub within : at ≤ length es
  pub lower : (k : ℕ) (d : Entry) → k < at → (get_or es k d).id < w
  pub stops : (d : Entry) → at < length es → w ≤ (get_or es at d).id
