-- A word of a line, and what it can stand for. The rules are this project's own.
use Rattle.std.specs.Prelude.{ℕ, ◌+◌, ◌*◌, ◌-◌, ◌^◌, ◌==◌, nat_le, nat_lt, Bool, true, false, not, ◌&&◌, if◌then◌else◌, List, [], ◌∷◌, length, take, drop, Option, Some, None, Result, Ok, Err, codes, bytes_eq}
use Rattle.std.specs.List.{filter, list_all}
use Rattle.hex.specs.Hex.{decode_of}
use Rattle.hex.specs.declared.error.FromHexError.{FromHexError}
use Rattle.meta_types.specs.Name.{Prefix, Key}
use Rattle.printing.specs.Field.{are_plain}
use Rattle.streams.specs.Line.{onto_first}

abbrev pub Word : Type 0
Word = List ℕ

-- ---- parts

-- the parts between separators: one more than there are separators, and some may be empty
unfoldable pub parts_of : ℕ → List ℕ → List (List ℕ)
parts_of separator [] = [] ∷ []
parts_of separator (b ∷ bytes) =
    if b == separator
    then [] ∷ parts_of separator bytes
    else onto_first b (parts_of separator bytes)

abbrev pub is_empty : List ℕ → Bool
is_empty [] = true
is_empty (b ∷ bytes) = false

-- the words of a line are separated by one or more spaces; spaces at its ends are no part of it
abbrev pub words_of : List ℕ → List Word
words_of line = filter (λ part. not (is_empty part)) (parts_of 32 line)

-- ---- numbers

abbrev pub is_digit : ℕ → Bool
is_digit b = nat_le 48 b && nat_le b 57

-- the value of decimal digits, after digits that were read and have this value
abbrev pub digits_onto : ℕ → List ℕ → ℕ
digits_onto value [] = value
digits_onto value (b ∷ digits) = digits_onto (value * 10 + (b - 48)) digits

-- 1 to 20 digits, the first of which may be 0
abbrev pub are_digits : Word → Bool
are_digits word = not (is_empty word) && (nat_le (length word) 20 && list_all is_digit word)

-- a number is below 2^64
abbrev pub number_of : Word → Option ℕ
number_of word =
    if are_digits word && nat_lt (digits_onto 0 word) (2 ^ 64)
    then Some (digits_onto 0 word)
    else None

-- ---- names: parts of letters, digits, `.`, `_` and `-`, which are joined by `/`

abbrev prefix_of_parts : List (List ℕ) → Option Prefix
prefix_of_parts (prefix ∷ sub ∷ []) =
    if are_plain prefix && are_plain sub
    then Some (record { prefix = prefix; sub = sub })
    else None
prefix_of_parts parts = None

-- as `a/b`
abbrev pub full_prefix_of : Word → Option Prefix
full_prefix_of word = prefix_of_parts (parts_of 47 word)

abbrev key_of_parts : List (List ℕ) → Option Key
key_of_parts (prefix ∷ sub ∷ key ∷ []) =
    if are_plain prefix && (are_plain sub && are_plain key)
    then Some (record { prefix = record { prefix = prefix; sub = sub }; key = key })
    else None
key_of_parts parts = None

-- as `a/b/k`
abbrev pub key_of : Word → Option Key
key_of word = key_of_parts (parts_of 47 word)

-- ---- bytes

abbrev pub of_decoded : Result (List ℕ) FromHexError → Option (List ℕ)
of_decoded (Ok bytes) = Some bytes
of_decoded (Err fault) = None

-- the bytes that an even number of hexadecimal digits stands for, which may be of either case
abbrev pub bytes_of_digits : Word → Option (List ℕ)
bytes_of_digits digits = of_decoded (decode_of digits)

-- as `x`, or as `hex:78`; `hex:` alone is no bytes
abbrev pub value_of : Word → Option (List ℕ)
value_of word =
    if are_plain word then Some word
    else if bytes_eq (take 4 word) (codes "hex:") then bytes_of_digits (drop 4 word)
    else None

-- as `5054`: two digits at least
abbrev pub junk_of : Word → Option (List ℕ)
junk_of word = if nat_le 2 (length word) then bytes_of_digits word else None

-- ---- choices

-- one of two words, by its place
abbrev pub choice_of : Word → Word → Word → Option ℕ
choice_of first second word =
    if bytes_eq word first then Some 0
    else if bytes_eq word second then Some 1
    else None

-- only what is below a bound
abbrev pub below : ℕ → Option ℕ → Option ℕ
below bound None = None
below bound (Some n) = if nat_lt n bound then Some n else None

-- only what is within a range
abbrev pub within : ℕ → ℕ → Option ℕ → Option ℕ
within low high None = None
within low high (Some n) = if nat_le low n && nat_le n high then Some n else None
