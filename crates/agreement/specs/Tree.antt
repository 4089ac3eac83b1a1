-- Exchanges along a tree of nodes, and what is passed on along it.
use Rattle.std.specs.Prelude.{◌≡◌, ℕ, ◌==◌, List, [], ◌∷◌, ◌++◌, Bool, true, false, ◌||◌, ◌&&◌, if◌then◌else◌}
use Rattle.std.specs.List.{list_any}
use Rattle.agreement.specs.Rounds.{Exchange, Known}

-- whether a node is in the tree that these edges make over a root
abbrev pub is_in : ℕ → List Exchange → ℕ → Bool
is_in root [] n = n == root
is_in root (e ∷ es) n = n == e.other || is_in root es n

-- a tree over a root, by its edges: the root alone, or a tree and one more edge, from a node of it
-- to a new one; the last that was added comes first
abbrev pub IsTree : ℕ → List Exchange → Type 0
IsTree root [] = Unit {0}
IsTree root (e ∷ es) =
    (is_in root es e.one ≡ true) × (is_in root es e.other ≡ false) × IsTree root es

-- from the root to the leaves; the edges themselves go from the leaves to the root
abbrev pub outwards : List Exchange → List Exchange
outwards [] = []
outwards (e ∷ es) = outwards es ++ e ∷ []

-- from the leaves to the root and back: the edges, and then `outwards`, where the last exchange
-- inwards is the first outwards
abbrev pub in_and_out : List Exchange → List Exchange
in_and_out [] = []
in_and_out (e ∷ []) = e ∷ []
in_and_out (e ∷ f ∷ es) = e ∷ (in_and_out (f ∷ es) ++ e ∷ [])

-- ---- who is joined

-- whether an edge leads from the one node to the other
abbrev pub has_edge : List Exchange → ℕ → ℕ → Bool
has_edge edges n m = list_any (λ e. n == e.one && m == e.other) edges

-- whether an edge joins the two, in either direction
abbrev pub are_joined : List Exchange → ℕ → ℕ → Bool
are_joined edges n m = has_edge edges n m || has_edge edges m n

-- the same tree of the same nodes, over another of its nodes
pub record IsSameTree (root : ℕ) (edges : List Exchange) (other : ℕ) (others : List Exchange)
    : Type 0 where
  pub tree : IsTree other others
  pub nodes : (n : ℕ) → is_in other others n ≡ is_in root edges n
  pub joined : (n m : ℕ) → are_joined others n m ≡ are_joined edges n m

-- ---- what is passed on

-- the one passes on to the other what it knows, and learns nothing
abbrev pub after_passing_one : Known → Exchange → Known
after_passing_one K e n m = if n == e.other then K e.one m || K n m else K n m

-- after this along each of these edges, one after the other
abbrev pub after_passing_all : Known → List Exchange → Known
after_passing_all K [] = K
after_passing_all K (e ∷ es) = after_passing_all (after_passing_one K e) es
