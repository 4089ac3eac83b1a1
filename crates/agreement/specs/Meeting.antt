-- An exchange of two nodes as happenings of the past: both send what they know under the key, and
-- each gets what the other sent. The rule is our own.
use Rattle.std.specs.Prelude.{◌≡◌, ℕ, ◌+◌, ◌<◌, true, List, [], ◌∷◌, ◌++◌, length}
use Rattle.meta_types.specs.Name.{Key}
use Rattle.past_model.specs.declared.happening.Happening.{Happening}
use Rattle.past_model.specs.declared.happening.Happening.TheVariants.{Sent, Got}
use Rattle.past_model.specs.Past.{known}
use Rattle.agreement.specs.Rounds.{Exchange, KnowAll, after_all, own}

-- an exchange whose first happening is at the place
abbrev pub meeting : Key → ℕ → Exchange → List Happening
meeting k place e =
    Sent e.one k ∷ Sent e.other k ∷ Got e.one (place + 1) ∷ Got e.other place ∷ []

-- exchanges, one after the other
abbrev pub meetings : Key → ℕ → List Exchange → List Happening
meetings k place [] = []
meetings k place (e ∷ es) = meeting k place e ++ meetings k (place + 4) es

-- a history that goes on with them
abbrev pub after_meetings : List Happening → Key → List Exchange → List Happening
after_meetings hs k es = hs ++ meetings k (length hs) es

-- they suffice for the first nodes, as many as that: all of these know all after them, and no other
-- node knew a write of the key
pub record SufficeFor (many : ℕ) (hs : List Happening) (k : Key) (es : List Exchange) : Type 0 where
  pub know_all : KnowAll many (after_all own es)
  pub of_first : (m p : ℕ) → known hs m k p ≡ true → m < many
