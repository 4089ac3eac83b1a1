-- Words that are read one after the other. A reading takes words from the front and gives what they
-- stand for, with the words that are left. It gives nothing if they don't stand for what it wants.
use Rattle.std.specs.Prelude.{ℕ, if◌then◌else◌, List, [], ◌∷◌, Option, Some, None, bytes_eq}
use Rattle.scenario_text.specs.Word.{Word, number_of}

abbrev pub WordReader : Type 0 → Type 0
WordReader A = List Word → Option (A × List Word)

infixl 10 ◌and◌
-- a value that needs no word
abbrev pub just : {A : Type 0} → A → WordReader A
just x words = Some (x, words)

-- what was read, and what is left
abbrev pub given : {A : Type 0} → List Word → Option A → Option (A × List Word)
given left None = None
given left (Some x) = Some (x, left)

-- one word that stands for something by the rule
abbrev pub one : {A : Type 0} → (Word → Option A) → WordReader A
one rule [] = None
one rule (word ∷ words) = given words (rule word)

-- a number if the first word is one; otherwise none, for which no word is read
abbrev pub number_or_none : WordReader (Option ℕ)
number_or_none [] = Some (None, [])
number_or_none (word ∷ words) = elim (number_of word) [
  | None ↦ Some (None, word ∷ words)
  | Some n ↦ Some (Some n, words)
]

-- a number that was read after its label
abbrev pub some_of : Option (ℕ × List Word) → Option (Option ℕ × List Word)
some_of None = None
some_of (Some read) = Some (Some read.0, read.1)

-- a number after this label, as `stamp 5`, if the label stands there; otherwise none, for which no
-- word is read
abbrev pub labelled : Word → WordReader (Option ℕ)
labelled label [] = Some (None, [])
labelled label (word ∷ words) =
    if bytes_eq word label then some_of (one number_of words) else Some (None, word ∷ words)

-- a number after a label; none counts as 0
abbrev pub or_zero : Option (Option ℕ × List Word) → Option (ℕ × List Word)
or_zero None = None
or_zero (Some (None, words)) = Some (0, words)
or_zero (Some (Some n, words)) = Some (n, words)

abbrev pub labelled_or_zero : Word → WordReader ℕ
labelled_or_zero label words = or_zero (labelled label words)

-- ---- one reading after another

abbrev pub applied : {A B : Type 0} → (A → B) → Option (A × List Word) → Option (B × List Word)
applied f None = None
applied f (Some read) = Some (f read.0, read.1)

abbrev pub and_then : {A B : Type 0} → WordReader A → Option ((A → B) × List Word)
    → Option (B × List Word)
and_then next None = None
and_then next (Some read) = applied read.0 (next read.1)

-- what is read, unless no word is left; then none
abbrev pub if_any : {A : Type 0} → WordReader A → WordReader (Option A)
if_any reads [] = Some (None, [])
if_any reads (word ∷ words) = applied Some (reads (word ∷ words))

-- the first reading gives a function; it is applied to what the second reads from the words that
-- the first left
abbrev pub ◌and◌ : {A B : Type 0} → WordReader (A → B) → WordReader A → WordReader B
first and second = λ words. and_then second (first words)

abbrev pub whole_of : {A : Type 0} → Option (A × List Word) → Option A
whole_of None = None
whole_of (Some (x, [])) = Some x
whole_of (Some (x, word ∷ words)) = None

-- what the words stand for, if none is left over
abbrev pub exactly : {A : Type 0} → WordReader A → List Word → Option A
exactly reads words = whole_of (reads words)
