-- The history of what one node publishes, and the word that stands for it at run time.
use Rattle.std.specs.Prelude.{◌≡◌, ◌==◌, ◌^◌, ℕ, true, List, [], ◌∷◌, ◌++◌, length, MatchBool}
use Rattle.logbook.specs.Pages.{Book, Cell, Named, Step, View}
use Rattle.node_readers.specs.Published.{Published}

-- a history up to some change: whose book it is in, and the changes
pub record Extent : Type 0 where
  pub book : Book
  pub list : List Published

-- the most changes of a history
abbrev pub most_changes : ℕ
most_changes = 2 ^ 62

-- ---- what the rule of the book cites

-- a book has two words: the first is the number of changes, the second stays 0
abbrev pub CountsChanges : List Cell → List Published → Type 0
CountsChanges cells list = cells ≡ (length list, true) ∷ (0, true) ∷ []

-- the first word of a book
abbrev pub word_of : Book → Named
word_of book = record { tracked = true; key = 0; book = book }

-- if the number that was found is the one that was expected, the change was added to all that had
-- been seen; otherwise `found` changes are seen
abbrev pub AddsChange : Step Published → View Published ℕ → ℕ → View Published ℕ → Type 0
AddsChange s before found after =
    MatchBool (found == s.old) (after.0 ≡ before.0 ++ s.ask ∷ []) (length after.0 ≡ found)
