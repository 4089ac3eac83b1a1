-- Each line has one text, and each input one output.
use Rattle.std.proofs.Common.{◌≡◌, ℕ, suc, ◌<◌, ◌≤◌, ◌-◌, ◌==◌, ◌↔◌, Bool, true, false, List, [], ◌∷◌, ◌++◌, length, get_or, All, Option, Some, None, is_some, Result, Ok, Err, refl, sym, ap, subst, ◌∙◌, append_assoc, inl, inr, codes, IsTrue, IfOk, OnOk, arith}
use Rattle.std.specs.Prelude.{MatchResult}
use Rattle.std.proofs.lemmas.List.Elements.{All-from_get_or, All-take}
use Rattle.memchr.specs.Find.{IsFirstByte, is_byte}
use Rattle.hex.specs.Hex.{decode_of}
use Rattle.hex.proofs.HexLemmas.{decode_of-ok, decode_of-same}
use Rattle.hex.specs.declared.error.FromHexError.{FromHexError}
use Rattle.meta_frame.specs.declared.message.Frame.{Frame}
use Rattle.meta_frame.proofs.Frames.{one_frame, one_refusal, never_both, frame_or_refusal}
use Rattle.printing.specs.Frame.{frame_text, frame_fault_text}
use Rattle.sealed_frames.specs.Seal.{IsSealed, frame_in}
use Rattle.sealed_frames.specs.declared.key.Keys.{Keys}
use Rattle.plumctl_core.specs.Output.{without_spaces, IsTextOfBytes, IsTextUnder, IsTextOf, IsTextOfAll, IsFrameLine, PrintsTextUnder, SpellsUnder}
use Rattle.plumctl_core.proofs.Sealing.{sealed_or_not}

text_of_bytes : (bytes : List ℕ) → All (λ b. b < 256) bytes → (text : List ℕ) × IsTextOfBytes bytes text
text_of_bytes bytes are = elim (frame_or_refusal bytes are) [
  | inl f ↦ (frame_text f.0, inl (f.0, f.1, refl))
  | inr r ↦ (frame_fault_text r.0, inr (r.0, r.1, refl))
]

text_under : (keys : Option Keys) (bytes : List ℕ) → All (λ b. b < 256) bytes → (text : List ℕ) × IsTextUnder keys bytes text
text_under None bytes are = text_of_bytes bytes are
text_under (Some keys) bytes are = elim (sealed_or_not keys bytes) [
  | inl opens ↦
      let text = text_of_bytes (frame_in bytes) (All-take (λ b. b < 256) (length bytes - 16) bytes are) in
      (text.0, inl (opens, text.1))
  | inr fails ↦ (codes "error 17 BadSeal", inr (fails, refl))
]

text_of_digits : (keys : Option Keys) (line : List ℕ) (digits : Result (List ℕ) FromHexError) → decode_of (without_spaces line) ≡ digits
    → (text : List ℕ) × MatchResult digits (λ bytes. IsTextUnder keys bytes text) (λ _. text ≡ codes "error 9 BadHex")
text_of_digits keys line (Ok bytes) e =
    text_under keys bytes (All-from_get_or (λ b. b < 256) bytes 0 (λ i lt. (decode_of-ok (without_spaces line) bytes e).3 i))
text_of_digits keys line (Err fault) e = (codes "error 9 BadHex", refl)

pub text_of_line : (keys : Option Keys) (line : List ℕ) → (text : List ℕ) × IsTextOf keys line text
text_of_line keys line = text_of_digits keys line (decode_of (without_spaces line)) refl

pub text_of_all : (keys : Option Keys) (lines : List (List ℕ)) → (text : List ℕ) × IsTextOfAll keys lines text
text_of_all keys [] = ([], refl)
text_of_all keys (line ∷ lines) =
    let first = text_of_line keys line in
    let rest = text_of_all keys lines in
    (first.0 ++ 10 ∷ rest.0, (first.0, rest.0, first.1, rest.1, refl))

one_text_of_bytes : (bytes text other : List ℕ) → IsTextOfBytes bytes text → IsTextOfBytes bytes other → text ≡ other
one_text_of_bytes bytes text other a b = elim a [
  | inl f ↦ elim b [
    | inl g ↦ f.2 ∙ ap frame_text (one_frame f.0 g.0 bytes f.1 g.1) ∙ sym g.2
    | inr r ↦ absurd (never_both f.0 bytes r.0 f.1 r.1)
  ]
  | inr r ↦ elim b [
    | inl g ↦ absurd (never_both g.0 bytes r.0 g.1 r.1)
    | inr s ↦ r.2 ∙ ap frame_fault_text (one_refusal bytes r.0 s.0 r.1 s.1) ∙ sym s.2
  ]
]

one_text_under : (keys : Option Keys) (bytes text other : List ℕ) → IsTextUnder keys bytes text → IsTextUnder keys bytes other → text ≡ other
one_text_under None bytes text other a b = one_text_of_bytes bytes text other a b
one_text_under (Some keys) bytes text other a b = elim a [
  | inl opens ↦ elim b [
    | inl also ↦ one_text_of_bytes (frame_in bytes) text other opens.1 also.1
    | inr fails ↦ absurd (fails.0 opens.0)
  ]
  | inr fails ↦ elim b [
    | inl opens ↦ absurd (fails.0 opens.0)
    | inr also ↦ fails.1 ∙ sym also.1
  ]
]

one_text_of_digits : (keys : Option Keys) (digits : Result (List ℕ) FromHexError) (text other : List ℕ)
    → MatchResult digits (λ bytes. IsTextUnder keys bytes text) (λ _. text ≡ codes "error 9 BadHex")
    → MatchResult digits (λ bytes. IsTextUnder keys bytes other) (λ _. other ≡ codes "error 9 BadHex") → text ≡ other
one_text_of_digits keys (Ok bytes) text other a b = one_text_under keys bytes text other a b
one_text_of_digits keys (Err fault) text other a b = a ∙ sym b

one_text_of_line : (keys : Option Keys) (line text other : List ℕ) → IsTextOf keys line text → IsTextOf keys line other → text ≡ other
one_text_of_line keys line = one_text_of_digits keys (decode_of (without_spaces line))

pub one_text_of_all : (keys : Option Keys) (lines : List (List ℕ)) (text other : List ℕ) → IsTextOfAll keys lines text → IsTextOfAll keys lines other → text ≡ other
one_text_of_all keys [] text other a b = a ∙ sym b
one_text_of_all keys (line ∷ lines) text other a b =
    a.4 ∙ ap (λ first. first ++ 10 ∷ a.1) (one_text_of_line keys line a.0 b.0 a.2 b.2)
    ∙ ap (λ rest. b.0 ++ 10 ∷ rest) (one_text_of_all keys lines a.1 b.1 a.3 b.3) ∙ sym b.4

-- one line more
pub text_more : (keys : Option Keys) (lines : List (List ℕ)) (line text more : List ℕ) → IsTextOfAll keys lines text → IsTextOf keys line more → IsTextOfAll keys (lines ++ line ∷ []) (text ++ (more ++ 10 ∷ []))
text_more keys [] line text more a b = (more, [], b, refl, ap (λ front. front ++ (more ++ 10 ∷ [])) a)
text_more keys (first ∷ lines) line text more a b = (
  a.0,
  a.1 ++ (more ++ 10 ∷ []),
  a.2,
  text_more keys lines line a.1 more a.3 b,
  ap (λ front. front ++ (more ++ 10 ∷ [])) a.4 ∙ append_assoc a.0 (10 ∷ a.1) (more ++ 10 ∷ []),
)

-- more lines
pub text_then : (keys : Option Keys) (lines others : List (List ℕ)) (text more : List ℕ) → IsTextOfAll keys lines text → IsTextOfAll keys others more → IsTextOfAll keys (lines ++ others) (text ++ more)
text_then keys [] others text more a b = subst (IsTextOfAll keys others) (ap (λ front. front ++ more) (sym a)) b
text_then keys (first ∷ lines) others text more a b =
    (a.0, a.1 ++ more, a.2, text_then keys lines others a.1 more a.3 b, ap (λ front. front ++ more) a.4 ∙ append_assoc a.0 (10 ∷ a.1) more)

-- digits that stand for bytes
same_digits : (line bytes others : List ℕ) → decode_of (without_spaces line) ≡ Ok bytes → decode_of (without_spaces line) ≡ Ok others → others ≡ bytes
same_digits line bytes others a b = decode_of-same (without_spaces line) others bytes b a

frame_line : (keys : Option Keys) (line bytes : List ℕ) (is : Bool) → decode_of (without_spaces line) ≡ Ok bytes → (IsTrue is ↔ ((frame : Frame) × SpellsUnder keys frame bytes)) → IsTrue is ↔ IsFrameLine keys line
frame_line keys line bytes is e same = (
  λ yes. let f = same.0 yes in record { bytes = bytes; digits = e; frame = f.0; spelled = f.1 },
  λ f. same.1 (f.frame, subst (SpellsUnder keys f.frame) (same_digits line bytes f.bytes e f.digits) f.spelled),
)

not_true : (b : Bool) → (b ≡ true → ⊥) → b ≡ false
not_true true never = absurd (never refl)
not_true false never = refl

-- no byte is a space
no_spaces : (line : List ℕ) → ((k : ℕ) → 0 ≤ k → k < length line → is_byte 32 (get_or line k 0) ≡ true → ⊥) → without_spaces line ≡ line
no_spaces [] none = refl
no_spaces (b ∷ line) none =
    let other : (b == 32) ≡ false = not_true (b == 32) (none 0 (omega arith) (omega arith)) in
    let rest = no_spaces line (λ k low high e. none (suc k) (omega arith) (omega arith) e) in
    rw (other, rest) refl

pub none_found : (line : List ℕ) (place : Option ℕ) → IsFirstByte (is_byte 32) line place → is_some place ≡ false → without_spaces line ≡ line
none_found line None found e = no_spaces line found
none_found line (Some n) found e = cc e

-- the text of bytes that were read from the digits of a line, put where nothing stood
pub line_text : {X Y : Type 0} (r : Result X Y) (keys : Option Keys) (line bytes slice old new : List ℕ) → decode_of (without_spaces line) ≡ Ok bytes → slice ≡ bytes → old ≡ [] → OnOk r (PrintsTextUnder keys slice old new) → OnOk r (IsTextOf keys line new)
line_text (Ok x) keys line bytes slice old new digits slice_is none puts =
    let new_is : puts.0 ≡ new = sym (puts.2 ∙ ap (λ front. front ++ puts.0) none) in
    subst (λ d. MatchResult d (λ bs. IsTextUnder keys bs new) (λ _. new ≡ codes "error 9 BadHex")) (sym digits)
    (subst (IsTextUnder keys bytes) new_is (subst (λ bs. IsTextUnder keys bs puts.0) slice_is puts.1))
line_text (Err e) keys line bytes slice old new digits slice_is none puts = tt

-- whether these bytes spell a frame, and so the line
pub line_frame : {Y : Type 0} (r : Result Bool Y) (keys : Option Keys) (line bytes slice : List ℕ) → decode_of (without_spaces line) ≡ Ok bytes → slice ≡ bytes → IfOk r (λ is. IsTrue is ↔ ((frame : Frame) × SpellsUnder keys frame slice))
    → IfOk r (λ is. IsTrue is ↔ IsFrameLine keys line)
line_frame (Ok is) keys line bytes slice digits slice_is same =
    frame_line keys line bytes is digits (subst (λ bs. IsTrue is ↔ ((frame : Frame) × SpellsUnder keys frame bs)) slice_is same)
line_frame (Err e) keys line bytes slice digits slice_is same = tt
