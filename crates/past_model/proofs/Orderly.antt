-- What the writes of every history keep.
use Rattle.std.specs.Prelude.{◌≡◌, ℕ, ◌<◌, List, [], ◌∷◌, true}
use Rattle.past_model.specs.Past.{Write, In}
use Rattle.past_model.specs.Shown.{IsClosed}

pub record Below (bound : ℕ) (ws : List Write) : Type 0 where
  pub all : (x : Write) → In x ws → x.place < bound

-- the writes stand in falling order of their places
abbrev pub IsFalling : List Write → Type 0
IsFalling [] = Unit {0}
IsFalling (x ∷ xs) = Below x.place xs × IsFalling xs

-- of any history: the later first, and each has read only earlier ones
pub record Ordered (ws : List Write) : Type 0 where
  pub falling : IsFalling ws
  pub causal : (x : Write) → In x ws → (p : ℕ) → x.read p ≡ true → p < x.place

-- of a history: what each has read is closed
pub record Orderly (ws : List Write) : Type 0 where
  pub ordered : Ordered ws
  pub closed : (x : Write) → In x ws → IsClosed ws x.key x.read
