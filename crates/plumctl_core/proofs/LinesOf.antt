-- The lines of a text that is read line by line.
use Rattle.std.proofs.Common.{◌≡◌, ◌≢◌, ℕ, ◌<◌, List, [], ◌∷◌, ◌++◌, length, refl, sym, ap, ◌∙◌, append_assoc, arith}
use Rattle.std.proofs.lemmas.Bool.{ne_eqb}
use Rattle.std.proofs.lemmas.List.Elements.{All-head, All-tail}
use Rattle.streams.specs.Line.{IsOneLine}
use Rattle.plumctl_core.specs.Run.{EndsAtLine}
use Rattle.streams.specs.Line.{lines_of}

abbrev IsOther : ℕ → Type 0
IsOther b = b ≢ 10

pub lines_line : (line rest : List ℕ) → IsOneLine line → lines_of (line ++ 10 ∷ rest) ≡ line ∷ lines_of rest
unfolding lines_of
lines_line [] rest one = refl
lines_line (b ∷ line) rest one =
    rw (ne_eqb b 10 (All-head IsOther b line one), lines_line line rest (All-tail IsOther b line one)) refl

-- a last line without a line feed
pub lines_rest : (line : List ℕ) → IsOneLine line → 0 < length line → lines_of line ≡ line ∷ []
unfolding lines_of
lines_rest [] one some = absurd (omega arith)
lines_rest (b ∷ []) one some = rw (ne_eqb b 10 (All-head IsOther b [] one)) refl
lines_rest (b ∷ c ∷ line) one some =
    rw (ne_eqb b 10 (All-head IsOther b (c ∷ line) one), lines_rest (c ∷ line) (All-tail IsOther b (c ∷ line) one) (omega arith)) refl

pub ends_none : EndsAtLine []
unfolding lines_of
ends_none rest = refl

lines_nil : lines_of [] ≡ []
unfolding lines_of
lines_nil = refl

-- one more line
pub lines_more : (done line : List ℕ) → EndsAtLine done → IsOneLine line → lines_of (done ++ (line ++ 10 ∷ [])) ≡ lines_of done ++ line ∷ []
lines_more done line ends one = ends (line ++ 10 ∷ []) ∙ ap (λ lines. lines_of done ++ lines) (lines_line line [] one ∙ ap (λ lines. line ∷ lines) lines_nil)

pub ends_more : (done line : List ℕ) → EndsAtLine done → IsOneLine line → EndsAtLine (done ++ (line ++ 10 ∷ []))
ends_more done line ends one rest =
    ap lines_of (append_assoc done (line ++ 10 ∷ []) rest ∙ ap (λ bytes. done ++ bytes) (append_assoc line (10 ∷ []) rest))
    ∙ ends (line ++ 10 ∷ rest) ∙ ap (λ lines. lines_of done ++ lines) (lines_line line rest one)
    ∙ sym (append_assoc (lines_of done) (line ∷ []) (lines_of rest))
    ∙ ap (λ lines. lines ++ lines_of rest) (sym (lines_more done line ends one))

-- the last line, without a line feed
pub lines_last : (done line : List ℕ) → EndsAtLine done → IsOneLine line → 0 < length line → lines_of (done ++ line) ≡ lines_of done ++ line ∷ []
lines_last done line ends one some = ends line ∙ ap (λ lines. lines_of done ++ lines) (lines_rest line one some)
