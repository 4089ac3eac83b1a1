-- Numbers, names and bytes, as they are written, are read again.
use Rattle.std.proofs.Common.{◌≡◌, ℕ, ◌+◌, ◌%◌, ◌^◌, ◌<◌, ◌≤◌, ◌==◌, true, false, not, List, [], ◌∷◌, ◌++◌, append_assoc, length, All, Some, inl, inr, refl, ap, ◌∙◌, arith, rules}
use Rattle.std.specs.Prelude.{decimal, codes}
use Rattle.std.specs.List.{list_all}
use Rattle.std.proofs.lemmas.Bool.{and_parts, and_right, cases_Bool, le-leb}
use Rattle.std.proofs.lemmas.Fmt.{decimal_by_steps, decimal_nonempty, digits_decimal, digits_value-decimal, length-decimal-le}
use Rattle.std.proofs.lemmas.List.Elements.{All-append, All-cons, All-nil, All-push, All-weaker}
use Rattle.std.proofs.lemmas.Str.Parse.{IsNumeralModel, numerals_by_fold}
use Rattle.hex.specs.Hex.{IsBytes, encode_lower, is_hex_digit, lower_digits}
use Rattle.hex.proofs.HexLemmas.{decode_of-encode_lower, decode_of-ok, length-encode_with}
use Rattle.meta_types.specs.Name.{Prefix, Key}
use Rattle.printing.specs.Field.{are_plain, bytes_text, is_plain, key_text, prefix_text}
use Rattle.scenario_text.specs.Word.{bytes_of_digits, digits_onto, full_prefix_of, is_digit, is_empty, junk_of, key_of, number_of, of_decoded, value_of}
use Rattle.scenario_text.specs.Spelling.{IsPlainKey, IsPlainPrefix}
use Rattle.scenario_text.proofs.Names.{full_prefix_of-two, key_of-three, plain_others}
use Rattle.scenario_text.proofs.Numbers.{is_empty-false, number_of-digits}
use Rattle.scenario_text.proofs.Spaced.{IsInk, IsWritten, written_out}

-- ---- numbers

numerals : IsNumeralModel (λ ds. list_all is_digit ds ≡ true) (digits_onto 0)
numerals = numerals_by_fold _ (search rules) digits_onto (search rules)

pub number_of-decimal : (n : ℕ) → n < 2 ^ 64 → number_of (decimal n) ≡ Some n
number_of-decimal n small =
    number_of-digits (decimal n) n (decimal_nonempty n small) (length-decimal-le 20 n (omega arith) (omega arith) small)
    (digits_decimal numerals n small) (digits_value-decimal numerals n small) small

ink_decimal : (n : ℕ) → n < 2 ^ 64 → All IsInk (decimal n)
ink_decimal = decimal_by_steps (λ n ds. All IsInk ds)
    (λ n few. All-cons IsInk (48 + n) [] (omega arith) (All-nil IsInk))
    (λ n ds many ink. All-push IsInk ds (48 + n % 10) ink (omega arith))

pub written_decimal : (n : ℕ) → n < 2 ^ 64 → IsWritten (decimal n)
written_decimal n small = (is_empty-false (decimal n) (decimal_nonempty n small), ink_decimal n small)

-- ---- plain bytes

text_plain : (bytes : List ℕ) → are_plain bytes ≡ true → bytes_text bytes ≡ bytes
unfolding bytes_text
text_plain bytes plain = rw plain refl

text_other : (bytes : List ℕ) → are_plain bytes ≡ false → bytes_text bytes ≡ codes "hex:" ++ encode_lower bytes
unfolding bytes_text
text_other bytes other = rw other refl

all_plain : (bytes : List ℕ) → are_plain bytes ≡ true → list_all is_plain bytes ≡ true
all_plain bytes plain = (and_parts (not (length bytes == 0)) (list_all is_plain bytes) plain).1

ink_plain : (b : ℕ) → is_plain b ≡ true → IsInk b
ink_plain b plain = grind arith

ink_all_plain : (bytes : List ℕ) → list_all is_plain bytes ≡ true → All IsInk bytes
ink_all_plain [] plain = All-nil IsInk
ink_all_plain (b ∷ bytes) plain =
    let parts = and_parts (is_plain b) (list_all is_plain bytes) plain in
    All-cons IsInk b bytes (ink_plain b parts.0) (ink_all_plain bytes parts.1)

plain_some : (bytes : List ℕ) → are_plain bytes ≡ true → is_empty bytes ≡ false
plain_some [] plain = cc plain
plain_some (b ∷ bytes) plain = refl

-- ---- digits

digits_read : (bytes : List ℕ) → IsBytes bytes → bytes_of_digits (encode_lower bytes) ≡ Some bytes
digits_read bytes fit = ap of_decoded (decode_of-encode_lower bytes fit)

ink_digit : (b : ℕ) → is_hex_digit b ≡ true → IsInk b
ink_digit b digit = grind arith

ink_digits : (bytes : List ℕ) → IsBytes bytes → All IsInk (encode_lower bytes)
ink_digits bytes fit =
    All-weaker (λ b. is_hex_digit b ≡ true) IsInk ink_digit (encode_lower bytes)
    (decode_of-ok (encode_lower bytes) bytes (decode_of-encode_lower bytes fit)).1

-- ---- values and junk

not_plain : (digits : List ℕ) → are_plain (104 ∷ 101 ∷ 120 ∷ 58 ∷ digits) ≡ false
not_plain digits =
    let bytes = 104 ∷ 101 ∷ 120 ∷ 58 ∷ digits in and_right (not (length bytes == 0)) (list_all is_plain bytes) refl

value_of-digits : (digits : List ℕ) → value_of (104 ∷ 101 ∷ 120 ∷ 58 ∷ digits) ≡ bytes_of_digits digits
value_of-digits digits = rw (not_plain digits) refl

pub value_of-text : (bytes : List ℕ) → IsBytes bytes → value_of (bytes_text bytes) ≡ Some bytes
value_of-text bytes fit = elim (cases_Bool (are_plain bytes)) [
  | inl plain ↦ rw (text_plain bytes plain, plain) refl
  | inr other ↦ rw (text_other bytes other) (value_of-digits (encode_lower bytes) ∙ digits_read bytes fit)
]

pub written_text : (bytes : List ℕ) → IsBytes bytes → IsWritten (bytes_text bytes)
written_text bytes fit = elim (cases_Bool (are_plain bytes)) [
  | inl plain ↦ rw (text_plain bytes plain) (plain_some bytes plain, ink_all_plain bytes (all_plain bytes plain))
  | inr other ↦ rw (text_other bytes other)
      (refl, All-append IsInk (codes "hex:") (encode_lower bytes) (written_out (codes "hex:") refl refl).1 (ink_digits bytes fit))
]

pub junk_of-digits : (bytes : List ℕ) → 1 ≤ length bytes → IsBytes bytes → junk_of (encode_lower bytes) ≡ Some bytes
junk_of-digits bytes some fit =
    let many : 2 ≤ length (encode_lower bytes) = omega (arith, length-encode_with lower_digits bytes) in
    rw (le-leb 2 (length (encode_lower bytes)) many) (digits_read bytes fit)

pub written_digits : (bytes : List ℕ) → 1 ≤ length bytes → IsBytes bytes → IsWritten (encode_lower bytes)
written_digits bytes some fit =
    (is_empty-false (encode_lower bytes) (omega (arith, length-encode_with lower_digits bytes)), ink_digits bytes fit)

-- ---- names

full_prefix_of-plain : (p : Prefix) → IsPlainPrefix p → full_prefix_of (p.prefix ++ 47 ∷ p.sub) ≡ Some p
full_prefix_of-plain p plain =
    full_prefix_of-two (p.prefix ++ 47 ∷ p.sub) p.prefix p.sub (plain_others p.prefix (all_plain p.prefix plain.0)) refl
    ∙ rw (plain.0, plain.1) refl

prefix_plain : (p : Prefix) → IsPlainPrefix p → prefix_text p ≡ p.prefix ++ 47 ∷ p.sub
prefix_plain p plain = rw (text_plain p.prefix plain.0, text_plain p.sub plain.1) (append_assoc p.prefix (47 ∷ []) p.sub)

pub full_prefix_of-text : (p : Prefix) → IsPlainPrefix p → full_prefix_of (prefix_text p) ≡ Some p
full_prefix_of-text p plain = ap full_prefix_of (prefix_plain p plain) ∙ full_prefix_of-plain p plain

key_of-plain : (k : Key) → IsPlainKey k → key_of (k.prefix.prefix ++ 47 ∷ (k.prefix.sub ++ 47 ∷ k.key)) ≡ Some k
key_of-plain k plain =
    let a = k.prefix.prefix in
    let b = k.prefix.sub in
    key_of-three (a ++ 47 ∷ (b ++ 47 ∷ k.key)) a (b ++ 47 ∷ k.key) b k.key (plain_others a (all_plain a plain.0.0)) refl
    (plain_others b (all_plain b plain.0.1)) refl
    ∙ rw (plain.0.0, plain.0.1, plain.1) refl

key_plain : (k : Key) → IsPlainKey k → key_text k ≡ k.prefix.prefix ++ 47 ∷ (k.prefix.sub ++ 47 ∷ k.key)
key_plain k plain =
    rw (text_plain k.prefix.prefix plain.0.0, text_plain k.prefix.sub plain.0.1, text_plain k.key plain.1) (simp append_assoc)

pub key_of-text : (k : Key) → IsPlainKey k → key_of (key_text k) ≡ Some k
key_of-text k plain = ap key_of (key_plain k plain) ∙ key_of-plain k plain

joined_ink : (a b : List ℕ) → All IsInk a → All IsInk b → All IsInk (a ++ 47 ∷ b)
joined_ink a b first second = All-append IsInk a (47 ∷ b) first (All-cons IsInk 47 b (omega arith) second)

joined_some : (a b : List ℕ) → is_empty (a ++ 47 ∷ b) ≡ false
joined_some [] b = refl
joined_some (c ∷ a) b = refl

ink_name : (bytes : List ℕ) → are_plain bytes ≡ true → All IsInk bytes
ink_name bytes plain = ink_all_plain bytes (all_plain bytes plain)

pub written_prefix : (p : Prefix) → IsPlainPrefix p → IsWritten (prefix_text p)
written_prefix p plain =
    rw (prefix_plain p plain)
    (joined_some p.prefix p.sub, joined_ink p.prefix p.sub (ink_name p.prefix plain.0) (ink_name p.sub plain.1))

pub written_key : (k : Key) → IsPlainKey k → IsWritten (key_text k)
written_key k plain =
    let a = k.prefix.prefix in
    let b = k.prefix.sub in
    let rest = joined_ink b k.key (ink_name b plain.0.1) (ink_name k.key plain.1) in
    rw (key_plain k plain) (joined_some a (b ++ 47 ∷ k.key), joined_ink a (b ++ 47 ∷ k.key) (ink_name a plain.0.0) rest)
