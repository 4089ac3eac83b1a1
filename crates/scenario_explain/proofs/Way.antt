-- The line of the frames that are on their way.
use Rattle.std.proofs.Common.{◌≡◌, ℕ, List, [], ◌∷◌, ◌++◌, length, refl, sym, ap, ◌∙◌}
use Rattle.std.specs.Prelude.{codes}
use Rattle.std.proofs.lemmas.List.{append-nil}
use Rattle.scenario_explain.specs.OnTheWay.{first_of, way_lines, way_text}
use Rattle.scenario_explain.specs.Told.{told_line, told_lines}

-- they are told in one line
pub some_on_the_way : (frames line old new : List ℕ) → (length frames ≡ 0 → ⊥) → line ≡ codes "on their way:" ++ first_of 16 frames → new ≡ old ++ told_line line → new ≡ old ++ told_lines (way_lines frames)
unfolding way_text
some_on_the_way [] line old new some is new_is = absurd (some refl)
some_on_the_way (frame ∷ frames) line old new some is new_is =
    new_is ∙ ap (λ (l : List ℕ). old ++ told_line l) is ∙ ap (λ (xs : List ℕ). old ++ xs) (sym (append-nil (told_line (way_text (frame ∷ frames)))))
