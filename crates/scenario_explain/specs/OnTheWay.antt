-- Which frames are named as on their way: those that were never given to their addressees, the
-- first sixteen by their numbers, and how many more there are.
use Rattle.std.specs.Prelude.{ℕ, zero, suc, ◌-◌, List, [], ◌∷◌, ◌++◌, codes, decimal, flat_map, length, take}

-- each number after a space
abbrev pub spaced : List ℕ → List ℕ
spaced numbers = flat_map (λ number. codes " " ++ decimal number) numbers

-- as ` and 3 more`; nothing if there are no more
abbrev pub and_more : ℕ → List ℕ
and_more zero = []
and_more (suc more) = codes " and " ++ decimal (suc more) ++ codes " more"

-- the first `most` numbers, and how many more there are
abbrev pub first_of : ℕ → List ℕ → List ℕ
first_of most numbers = spaced (take most numbers) ++ and_more (length numbers - most)

-- as `on their way: 1 5 8`
unfoldable pub way_text : List ℕ → List ℕ
way_text frames = codes "on their way:" ++ first_of 16 frames

-- the lines of these frames: one, or none if there are no frames
abbrev pub way_lines : List ℕ → List (List ℕ)
way_lines [] = []
way_lines (frame ∷ frames) = way_text (frame ∷ frames) ∷ []
