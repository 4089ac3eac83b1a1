-- A header that stands before other bytes.
use Rattle.std.proofs.Common.{◌≡◌, ℕ, ◌+◌, ◌≤◌, true, false, cond, ltb, eqb, not, ◌||◌, List, ◌++◌, length, Some, None, sym, ap, subst, ◌∙◌, arith}
use Rattle.std.specs.Int.{w64}
use Rattle.std.proofs.lemmas.Bool.{le-ltb, lt-ltb, ne_eqb}
use Rattle.std.proofs.lemmas.List.{length-append}
use Rattle.meta_types.specs.First.{first_that_applies}
use Rattle.meta_frame.specs.Frame.{IsLawful, Spells, body, from_in, is_kind, kind_in, kind_of, len_in, limit, number_in, spelling, to_in, header}
use Rattle.meta_frame.specs.Header.{front_tests, header_in, header_of, node_tests}
use Rattle.meta_frame.specs.declared.header.Header.{Header}
use Rattle.meta_frame.specs.declared.message.Frame.{Frame}
use Rattle.meta_frame.specs.declared.fault.FrameFault.{FrameFault}
use Rattle.meta_frame.specs.declared.fault.FrameFault.TheVariants.{Short, BadMagic, BadVersion, BadKind, TooLong, BadBody}
use Rattle.frame_readers.proofs.Readers.{wide8, wide16, wide32, wide64}
use Rattle.meta_frame.proofs.Rows.{kind_is_known, small_kind}

-- ---- a frame and what follows it

tests_pass : (f : Frame) (rest : List ℕ) → IsLawful f → length (spelling f) ≤ limit → first_that_applies (front_tests (spelling f ++ rest) ++ node_tests (spelling f ++ rest)) ≡ None
tests_pass f rest law short =
    let bytes = spelling f ++ rest in
    let n = length (body f.message) in
    let long : length (spelling f) ≡ 20 + n = length-append (header f) (body f.message) in
    let all : length bytes ≡ length (spelling f) + length rest = length-append (spelling f) rest in
    let len : len_in bytes ≡ n = wide32.again n (omega (arith, short, long)) in
    let kind : kind_in bytes ≡ kind_of f.message = wide8.again (kind_of f.message) (small_kind f.message) in
    let from : from_in bytes ≡ f.from = wide16.again f.from (omega (arith, law.from)) in
    let to : to_in bytes ≡ f.to = wide16.again f.to (omega (arith, law.to)) in
    let a : ltb (length bytes) 20 ≡ false = le-ltb _ _ (omega (arith, long, all)) in
    let b : is_kind (kind_in bytes) ≡ true = ap is_kind kind ∙ kind_is_known f.message in
    let c : ltb limit (20 + len_in bytes) ≡ false = le-ltb _ _ (omega (arith, short, long, len)) in
    let g : ltb (from_in bytes) 16 ≡ true = lt-ltb _ _ (omega (arith, from, law.from)) in
    let h : ltb (to_in bytes) 16 ≡ true = lt-ltb _ _ (omega (arith, to, law.to)) in
    let j : eqb (to_in bytes) (from_in bytes) ≡ false = ne_eqb _ _ (λ same. law.apart (sym (sym to ∙ same ∙ from))) in
    λ i. cond (a i) (Some Short) (cond false (Some BadMagic) (cond false (Some BadVersion) (cond (not (b i)) (Some BadKind) (cond (c i) (Some TooLong) (cond (not (g i)) (Some (BadBody 4)) (cond (not (h i) || j i) (Some (BadBody 6)) None))))))

header_is : (f : Frame) (rest : List ℕ) → IsLawful f → length (spelling f) ≤ limit → header_in (spelling f ++ rest) ≡ header_of f
header_is f rest law short =
    let bytes = spelling f ++ rest in
    let n = length (body f.message) in
    let long : length (spelling f) ≡ 20 + n = length-append (header f) (body f.message) in
    let len : len_in bytes ≡ n = wide32.again n (omega (arith, short, long)) in
    let kind : kind_in bytes ≡ kind_of f.message = wide8.again (kind_of f.message) (small_kind f.message) in
    let from : from_in bytes ≡ f.from = wide16.again f.from (omega (arith, law.from)) in
    let to : to_in bytes ≡ f.to = wide16.again f.to (omega (arith, law.to)) in
    let number : number_in w64 8 bytes ≡ f.number = wide64.again f.number law.number in
    λ i. record { kind = kind i; from = from i; to = to i; number = number i; body_len = len i }

-- the header that stands at the front is that of the frame there
pub header_at_front : (bytes : List ℕ) (read : Header) → read ≡ header_in bytes
    → (frame : Frame) (front rest : List ℕ) → bytes ≡ front ++ rest → Spells frame front → read ≡ header_of frame
header_at_front bytes read value frame front rest split spells =
    let same : bytes ≡ spelling frame ++ rest = split ∙ ap (λ xs. xs ++ rest) spells.spelled in
    let short : length (spelling frame) ≤ limit = subst (λ xs. length xs ≤ limit) spells.spelled spells.short in
    value ∙ ap header_in same ∙ header_is frame rest spells.lawful short
