-- Words with a space between two of them are read again, and have no line feed.
use Rattle.std.proofs.Common.{◌≡◌, ℕ, ◌<◌, true, false, not, nat_lt, List, [], ◌∷◌, ◌++◌, append-nil, All, refl, ap, ◌∙◌, arith}
use Rattle.std.specs.List.{filter, list_all}
use Rattle.std.proofs.lemmas.Bool.{and_parts, ltb-true}
use Rattle.std.proofs.lemmas.List.Elements.{All-append, All-cons, All-nil, All-weaker}
use Rattle.scenario_text.specs.Word.{Word, is_empty, parts_of, words_of}
use Rattle.scenario_text.specs.Spelling.{after_spaces, spaced_words}
use Rattle.scenario_text.proofs.Parts.{IsOther, parts_of-first, parts_of-only, words_of-none}

-- a byte behind the space and the line feed
abbrev pub IsInk : ℕ → Type 0
IsInk b = 32 < b

abbrev pub IsWritten : Word → Type 0
IsWritten word = (is_empty word ≡ false) × All IsInk word

abbrev pub AreWritten : List Word → Type 0
AreWritten [] = Unit {0}
AreWritten (word ∷ words) = IsWritten word × AreWritten words

pub are_written-append : (xs ys : List Word) → AreWritten xs → AreWritten ys → AreWritten (xs ++ ys)
are_written-append [] ys first second = second
are_written-append (x ∷ xs) ys first second = (first.0, are_written-append xs ys first.1 second)

ink_by_test : (word : Word) → list_all (nat_lt 32) word ≡ true → All IsInk word
ink_by_test [] test = All-nil IsInk
ink_by_test (b ∷ word) test =
    let parts = and_parts (nat_lt 32 b) (list_all (nat_lt 32) word) test in
    All-cons IsInk b word (ltb-true 32 b parts.0) (ink_by_test word parts.1)

-- a word that is written out, for which both tests compute
pub written_out : (word : Word) → is_empty word ≡ false → list_all (nat_lt 32) word ≡ true → IsWritten word
written_out word some test = (some, ink_by_test word test)

-- ---- words

no_space : (word : Word) → All IsInk word → All (IsOther 32) word
no_space word ink = All-weaker IsInk (IsOther 32) (λ b more space. omega arith) word ink

parts_of-spaced : (word : Word) (words : List Word) → AreWritten (word ∷ words) → parts_of 32 (spaced_words (word ∷ words)) ≡ word ∷ words
parts_of-spaced word [] written = ap (parts_of 32) (append-nil word) ∙ parts_of-only 32 word (no_space word written.0.1)
parts_of-spaced word (next ∷ words) written =
    parts_of-first 32 word (spaced_words (next ∷ words)) (no_space word written.0.1)
    ∙ ap (λ (ws : List Word). word ∷ ws) (parts_of-spaced next words written.1)

filled : (words : List Word) → AreWritten words → filter (λ part. not (is_empty part)) words ≡ words
filled [] written = refl
filled (word ∷ words) written = rw (written.0.0) (ap (λ (ws : List Word). word ∷ ws) (filled words written.1))

pub words_of-spaced : (words : List Word) → AreWritten words → words_of (spaced_words words) ≡ words
words_of-spaced [] written = words_of-none
words_of-spaced (word ∷ words) written =
    ap (filter (λ part. not (is_empty part))) (parts_of-spaced word words written) ∙ filled (word ∷ words) written

-- ---- the line

no_feed : (word : Word) → All IsInk word → All (IsOther 10) word
no_feed word ink = All-weaker IsInk (IsOther 10) (λ b more feed. omega arith) word ink

no_feed_behind : (words : List Word) → AreWritten words → All (IsOther 10) (after_spaces words)
no_feed_behind [] written = All-nil (IsOther 10)
no_feed_behind (word ∷ words) written =
    All-append (IsOther 10) (32 ∷ word) (after_spaces words)
    (All-cons (IsOther 10) 32 word (λ feed. omega arith) (no_feed word written.0.1)) (no_feed_behind words written.1)

pub one_line-spaced : (words : List Word) → AreWritten words → All (IsOther 10) (spaced_words words)
one_line-spaced [] written = All-nil (IsOther 10)
one_line-spaced (word ∷ words) written =
    All-append (IsOther 10) word (after_spaces words) (no_feed word written.0.1) (no_feed_behind words written.1)
