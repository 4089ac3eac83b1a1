-- Words that are read one after the other.
use Rattle.std.proofs.Common.{◌≡◌, ◌↔◌, ℕ, Bool, not, List, [], ◌∷◌, Option, Some, None, IsTrue, is_some, slice_get, refl, sym}
use Rattle.std.specs.Borrow.{Bor}
use Rattle.std.specs.Option.{option_copied}
use Rattle.std.proofs.lemmas.Bool.{not-false, not-true, both_ways}
use Rattle.scenario_text.specs.Word.{Word}

pub words_are_over : (words : List Word) (next : Option (Bor (List ℕ))) (over : Bool) → option_copied next ≡ slice_get words 0 → is_some next ≡ not over → IsTrue over ↔ (words ≡ [])
words_are_over [] None over e is = (λ yes. refl, λ yes. not-false over (sym is))
words_are_over [] (Some word) over e is = absurd (cc e)
words_are_over (word ∷ words) None over e is = absurd (cc e)
words_are_over (word ∷ words) (Some next) over e is = (λ yes. absurd (both_ways over (not-true over (sym is)) yes), λ none. absurd (cc none))
