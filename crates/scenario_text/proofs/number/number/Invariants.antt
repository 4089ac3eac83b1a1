use Rattle.std.proofs.Common.{◌≡◌, ◌^◌, ◌<◌, drop}
use Rattle.std.specs.List.{list_all}
use Rattle.scenario_text.specs.Word.{digits_onto, is_digit}
use Rattle.scenario_text.proofs.number.number.Given as goal

-- what the digits that are left make of the value so far
abbrev pub invariant-loop-byte : goal.invariant-loop-byte
invariant-loop-byte l =
    (digits_onto l.value (drop l.byte-index l.word) ≡ digits_onto 0 l.word)
    × (list_all is_digit (drop l.byte-index l.word) ≡ list_all is_digit l.word) × (l.value < 2 ^ 64)
