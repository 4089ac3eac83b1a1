-- Bytes between separators: the parts of a name, the words of a line, the lines of a text.
use Rattle.std.proofs.Common.{◌≡◌, ◌≢◌, ℕ, suc, ◌<◌, ◌≤◌, ◌==◌, List, [], ◌∷◌, ◌++◌, length, take, drop, get_or, All, Option, Some, None, refl, sym, ap, subst, ◌∙◌, arith}
use Rattle.std.proofs.lemmas.Bool.{cond_both, eq-eqb, ne_eqb}
use Rattle.std.specs.Borrow.{Bor}
use Rattle.std.proofs.lemmas.List.{take_all, nil_from_length}
use Rattle.std.proofs.lemmas.List.Elements.{All-head, All-tail}
use Rattle.streams.specs.Line.{lines_of}
use Rattle.scenario_text.specs.Word.{parts_of, words_of}
use Rattle.streams.specs.Line.{onto_first}
use Rattle.scenario_text.specs.Coded.{BeginsNoSpace, SplitsAt, SplitsWord}

abbrev pub IsOther : ℕ → ℕ → Type 0
IsOther separator b = b ≢ separator

-- ---- parts

pub parts_of-first : (separator : ℕ) (part rest : List ℕ) → All (IsOther separator) part → parts_of separator (part ++ separator ∷ rest) ≡ part ∷ parts_of separator rest
unfolding parts_of
parts_of-first separator [] rest one = rw (eq-eqb separator separator refl) refl
parts_of-first separator (b ∷ part) rest one =
    rw (ne_eqb b separator (All-head (IsOther separator) b part one), parts_of-first separator part rest (All-tail (IsOther separator) b part one)) refl

pub parts_of-only : (separator : ℕ) (part : List ℕ) → All (IsOther separator) part → parts_of separator part ≡ part ∷ []
unfolding parts_of
parts_of-only separator [] one = refl
parts_of-only separator (b ∷ part) one =
    rw (ne_eqb b separator (All-head (IsOther separator) b part one), parts_of-only separator part (All-tail (IsOther separator) b part one)) refl

-- ---- words

-- what stands behind a first space
pub words_of-behind : (bytes : List ℕ) (n : ℕ) → 1 ≤ length bytes → get_or bytes 0 0 ≡ 32 → length (drop 1 bytes) ≤ n → words_of (take n (drop 1 bytes)) ≡ words_of bytes
unfolding parts_of
words_of-behind [] n some space all = absurd (omega arith)
words_of-behind (b ∷ bytes) n some space all = rw (take_all n bytes all, space) refl

pub words_of-none : words_of [] ≡ []
unfolding parts_of
words_of-none = refl

pub words_of-empty : (bytes : List ℕ) → length bytes ≡ 0 → words_of bytes ≡ []
words_of-empty bytes empty = ap words_of (nil_from_length bytes empty) ∙ words_of-none

pub words_of-first : (bytes word rest : List ℕ) → BeginsNoSpace bytes → All (IsOther 32) word → bytes ≡ word ++ 32 ∷ rest → words_of bytes ≡ word ∷ words_of rest
words_of-first bytes [] rest begins one is = let no : 32 ≢ 32 = subst BeginsNoSpace is begins in absurd (no refl)
words_of-first bytes (b ∷ word) rest begins one is = rw (is, parts_of-first 32 (b ∷ word) rest one) refl

pub words_of-only : (bytes : List ℕ) → 0 < length bytes → All (IsOther 32) bytes → words_of bytes ≡ bytes ∷ words_of []
words_of-only [] some one = absurd (omega arith)
words_of-only (b ∷ bytes) some one = rw (words_of-none, parts_of-only 32 (b ∷ bytes) one) refl

pub splits_word : (line bytes : List ℕ) (halves : Option (Bor (List ℕ) × Bor (List ℕ))) → words_of bytes ≡ words_of line → BeginsNoSpace bytes → SplitsAt 32 bytes halves → (halves ≡ None → ⊥) → SplitsWord line halves
splits_word line bytes None same begins split some = absurd (some refl)
splits_word line bytes (Some halves) same begins split some =
    sym same ∙ words_of-first bytes halves.0.now halves.1.now begins split.0 split.1

-- ---- lines

pub lines_of-none : lines_of [] ≡ []
unfolding lines_of
lines_of-none = refl

pub lines_of-first : (line rest : List ℕ) → All (IsOther 10) line → lines_of (line ++ 10 ∷ rest) ≡ line ∷ lines_of rest
unfolding lines_of
lines_of-first [] rest one = refl
lines_of-first (b ∷ line) rest one =
    rw (ne_eqb b 10 (All-head (IsOther 10) b line one), lines_of-first line rest (All-tail (IsOther 10) b line one)) refl

-- a last line without a line feed
pub lines_of-only : (line : List ℕ) → All (IsOther 10) line → 0 < length line → lines_of line ≡ line ∷ []
unfolding lines_of
lines_of-only [] one some = absurd (omega arith)
lines_of-only (b ∷ []) one some = rw (ne_eqb b 10 (All-head (IsOther 10) b [] one)) refl
lines_of-only (b ∷ c ∷ line) one some =
    rw (ne_eqb b 10 (All-head (IsOther 10) b (c ∷ line) one), lines_of-only (c ∷ line) (All-tail (IsOther 10) b (c ∷ line) one) (omega arith)) refl

pub lines_of-empty : (bytes : List ℕ) → length bytes ≡ 0 → lines_of bytes ≡ []
lines_of-empty bytes empty = ap lines_of (nil_from_length bytes empty) ∙ lines_of-none

length-onto_first : (b : ℕ) (lines : List (List ℕ)) → length (onto_first b lines) ≤ suc (length lines)
length-onto_first b [] = omega arith
length-onto_first b (line ∷ lines) = omega arith

-- there are no more lines than bytes
pub length-lines_of : (bytes : List ℕ) → length (lines_of bytes) ≤ length bytes
unfolding lines_of
length-lines_of [] = omega arith
length-lines_of (b ∷ bytes) =
    let rest = length-lines_of bytes in
    cond_both (b == 10) ([] ∷ lines_of bytes) (onto_first b (lines_of bytes)) (λ lines. length lines ≤ length (b ∷ bytes))
    (λ feed. omega arith) (λ other. omega (arith, length-onto_first b (lines_of bytes)))
