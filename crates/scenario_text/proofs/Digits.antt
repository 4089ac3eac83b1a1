-- Hexadecimal digits, and the bytes that they stand for.
use Rattle.std.proofs.Common.{◌≡◌, ℕ, ◌/◌, ◌%◌, ◌↔◌, Bool, true, List, [], length, Result, Ok, Err, IsTrue, unwrap_or, refl, sym, ◌∙◌, arith}
use Rattle.std.specs.Prelude.{IsSome}
use Rattle.std.specs.Char.{is_ascii_hexdigit}
use Rattle.std.specs.Bool.{Decides}
use Rattle.std.specs.List.{AllPass, list_all}
use Rattle.std.proofs.lemmas.Bool.Decides.{Decides-by_and, nat_tests}
use Rattle.hex.specs.Hex.{decode_of, is_hex_digit}
use Rattle.hex.specs.declared.error.FromHexError.{FromHexError}
use Rattle.hex.proofs.HexLemmas.{decode_of-digits, decode_of-ok}
use Rattle.scenario_text.specs.Word.{bytes_of_digits, of_decoded}

same_digits : (b : ℕ) → is_ascii_hexdigit b ≡ is_hex_digit b
same_digits b = grind (arith, nat_tests)

all_digits : (text : List ℕ) → Decides (list_all is_ascii_hexdigit text) (AllPass is_hex_digit text)
all_digits text =
    Decides-by_and is_ascii_hexdigit (λ b. is_hex_digit b ≡ true) (list_all is_ascii_hexdigit)
    (λ b. (λ is. sym (same_digits b) ∙ is, λ is. same_digits b ∙ is)) refl (λ _ _. refl) text

decoded : (r : Result (List ℕ) FromHexError) → IsSome (of_decoded r) → (bytes : List ℕ) × (r ≡ Ok bytes)
decoded (Ok bytes) some = (bytes, refl)
decoded (Err fault) some = cc some

-- an even number of digits stands for bytes, and nothing else does
pub digits_stand : (text : List ℕ) (all : Bool) → length text % 2 ≡ 0 → all ≡ list_all is_ascii_hexdigit text → IsTrue all ↔ IsSome (bytes_of_digits text)
digits_stand text all even is = (
  λ yes. let bytes = decode_of-digits text even ((all_digits text).0 (sym is ∙ yes)) in rw bytes.1 refl,
  λ some.
      let bytes = decoded (decode_of text) some in
      is ∙ (all_digits text).1 (decode_of-ok text bytes.0 bytes.1).1,
)

pub length-bytes_of_digits : (text : List ℕ) → IsSome (bytes_of_digits text) → length text / 2 ≡ length (unwrap_or (bytes_of_digits text) [])
length-bytes_of_digits text some =
    let bytes = decoded (decode_of text) some in
    let twice = (decode_of-ok text bytes.0 bytes.1).2 in
    rw bytes.1 (omega arith)
