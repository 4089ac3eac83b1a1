-- Lists of nodes in the order in which they came; a node is its number. A member that leaves lets
-- the list close up, one that comes goes last. The rules are those of the views of HyParView and
-- the peers of Plumtree.
use Rattle.std.specs.Prelude.{ℕ, ◌%◌, Bool, not, List, [], ◌∷◌, ◌++◌, length, take, drop, slice_index_or, nat_eq, if◌then◌else◌}
use Rattle.std.specs.List.{list_any, filter}
use Rattle.std.specs.Set.{remove_key}

-- whether x is a member
abbrev pub has : List ℕ → ℕ → Bool
has xs x = list_any (nat_eq x) xs

-- x leaves, and the list closes up
abbrev pub without : ℕ → List ℕ → List ℕ
without x xs = remove_key (nat_eq x) xs

-- x goes last, unless it is a member
abbrev pub put_last : ℕ → List ℕ → List ℕ
put_last x xs = if has xs x then xs else xs ++ x ∷ []

-- the members without those excluded
abbrev pub without_all : List ℕ → List ℕ → List ℕ
without_all excluded xs = filter (λ x. not (has excluded x)) xs

-- the random choice: the member at place `word` modulo the length; no row of a table chooses from
-- an empty list
abbrev pub choose : ℕ → List ℕ → ℕ
choose word xs = slice_index_or xs (word % length xs) 0

-- the members from the random place on, going round
abbrev pub from_place : ℕ → List ℕ → List ℕ
from_place word xs = drop (word % length xs) xs ++ take (word % length xs) xs

-- the first `count` of these, or all if there are no more
abbrev pub pick : ℕ → ℕ → List ℕ → List ℕ
pick word count xs = take count (from_place word xs)
