-- Printed lists.
use Rattle.std.specs.Prelude.{◌≡◌, ℕ, Bool, true, false, ◌&&◌, if◌then◌else◌, List, [], ◌∷◌, ◌++◌, codes}

-- texts with a comma before each; the first has none if `first` is true
abbrev pub separated : Bool → List (List ℕ) → List ℕ
separated first [] = []
separated first (text ∷ texts) = (if first then text else codes "," ++ text)
    ++ separated false texts

-- texts joined by commas; `-` if there are none
abbrev pub joined : List (List ℕ) → List ℕ
joined [] = codes "-"
joined (text ∷ texts) = separated true (text ∷ texts)

-- ---- what private functions cite

abbrev pub are_none : List (List ℕ) → Bool
are_none [] = true
are_none (text ∷ texts) = false

-- the texts of a list were added after what stood there; `next` says whether the next text would
-- stand first
pub record AddsTexts (first : Bool) (texts : List (List ℕ)) (old new : List ℕ)
    (next : Bool) : Type 0 where
  pub text : new ≡ old ++ separated first texts
  pub next_is : next ≡ (first && are_none texts)
