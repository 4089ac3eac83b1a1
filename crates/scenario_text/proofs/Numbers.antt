-- Numbers, digit by digit.
use Rattle.std.proofs.Common.{◌≡◌, ℕ, ◌+◌, ◌*◌, ◌-◌, ◌^◌, ◌<◌, ◌≤◌, true, false, nat_lt, List, [], ◌∷◌, length, drop, get_or, Some, None, refl, sym, ◌∙◌, arith}
use Rattle.std.specs.List.{list_all}
use Rattle.std.proofs.lemmas.Bool.{and_right, lt-ltb, le-ltb, le-leb}
use Rattle.std.proofs.lemmas.List.{at_drop_more, at_drop_all}
use Rattle.scenario_text.specs.Word.{are_digits, digits_onto, is_digit, is_empty, number_of}

-- digits make no number smaller
pub digits_onto-least : (value : ℕ) (digits : List ℕ) → value ≤ digits_onto value digits
digits_onto-least value [] = omega arith
digits_onto-least value (b ∷ digits) = let more = digits_onto-least (value * 10 + (b - 48)) digits in omega arith

pub is_empty-false : (word : List ℕ) → 0 < length word → is_empty word ≡ false
is_empty-false [] some = absurd (omega arith)
is_empty-false (b ∷ word) some = refl

pub number_of-digits : (word : List ℕ) (value : ℕ) → 0 < length word → length word ≤ 20 → list_all is_digit word ≡ true → digits_onto 0 word ≡ value → value < 2 ^ 64 → number_of word ≡ Some value
number_of-digits word value some few digits is small =
    rw (is_empty-false word some, le-leb (length word) 20 few, digits, is, lt-ltb value (2 ^ 64) small) refl

number_of-much : (word : List ℕ) → 2 ^ 64 ≤ digits_onto 0 word → number_of word ≡ None
number_of-much word much = rw (and_right (are_digits word) (nat_lt (digits_onto 0 word) (2 ^ 64)) (le-ltb (digits_onto 0 word) (2 ^ 64) much)) refl

-- a digit more is too much
pub number_of-next : (word : List ℕ) (value i : ℕ) → i < length word → digits_onto value (drop i word) ≡ digits_onto 0 word → 2 ^ 64 ≤ value * 10 + (get_or word i 0 - 48) → number_of word ≡ None
number_of-next word value i lt is much =
    let next = at_drop_more (digits_onto value) word i 0 lt in
    let least = digits_onto-least (value * 10 + (get_or word i 0 - 48)) (drop (i + 1) word) in
    number_of-much word (omega arith)

-- all digits were read
pub number_of-all : (word : List ℕ) (value i : ℕ) → 0 < length word → length word ≤ 20 → length word ≤ i → digits_onto value (drop i word) ≡ digits_onto 0 word → list_all is_digit (drop i word) ≡ list_all is_digit word → value < 2 ^ 64 → number_of word ≡ Some value
number_of-all word value i some few all is digits small =
    number_of-digits word value some few (sym digits ∙ at_drop_all (list_all is_digit) word i all) (sym is ∙ at_drop_all (digits_onto value) word i all) small
