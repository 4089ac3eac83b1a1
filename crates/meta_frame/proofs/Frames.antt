-- A frame that is read is spelled so, what is spelled so is read, and the reader's refusals are the first that
-- apply.
use Rattle.std.proofs.Common.{◌≡◌, ◌≢◌, ℕ, ◌+◌, ◌-◌, ◌^◌, ◌<◌, ◌≤◌, ◌⊎◌, Bool, true, false, cond, eqb, ltb, not, ◌||◌, List, [], ◌++◌, length, take, drop, All, Option, Some, None, Result, Ok, Err, refl, sym, ap, subst, ◌∙◌, arith, inl, inr}
use Rattle.std.specs.Prelude.{IfOk, IfErr, MatchOption}
use Rattle.std.specs.Int.{Width, byte_len, w8, w16, w32, w64, to_be_bytes}
use Rattle.std.proofs.lemmas.Bool.{eqb-true, eqb-false, ne_eqb, ltb-true, ltb-false, le-ltb, lt-ltb, cases_lt}
use Rattle.std.proofs.lemmas.List.{append-nil, nil_from_length, length-append, length-take, length-drop, take-append-drop, drop-drop, get_or_past}
use Rattle.meta_types.specs.First.{first_that_applies}
use Rattle.meta_frame.specs.declared.message.Message.{Message}
use Rattle.meta_frame.specs.declared.message.Frame.{Frame}
use Rattle.meta_frame.specs.declared.fault.FrameFault.{FrameFault}
use Rattle.meta_frame.specs.declared.fault.FrameFault.TheVariants.{Short, BadMagic, BadVersion, BadKind, TooLong, BadBody, LeftOver, Memory}
use Rattle.meta_frame.specs.Frame.{kind_of, body, is_kind, limit, header, spelling, IsLawful, Spells, number_in, kind_in, from_in, to_in, len_in, header_tests, IsBodyFault, RefusesBytes}
use Rattle.meta_frame.specs.Reading.{message_reader, framed, whole, checked, decode_of, Decodes}
use Rattle.frame_readers.proofs.Readers.{IsBytes, IsBytes-drop, IsBytes-take, IsWide, wide8, wide16, wide32, wide64}
use Rattle.meta_frame.proofs.Rows.{message_again, message_refuses, message_takes, message_faulty, kind_is_known, small_kind}

chosen : {A : Type 0} (b : Bool) (x y z : A) → cond b x y ≡ z → ((b ≡ true) × (x ≡ z)) ⊎ ((b ≡ false) × (y ≡ z))
chosen true x y z e = inl (refl, e)
chosen false x y z e = inr (refl, e)

-- ---- the header

-- a test that did not apply, and one after it
none_first : {F : Type 0} (b : Bool) (f : F) (o : Option F) → cond b (Some f) o ≡ None → (b ≡ false) × (o ≡ None)
none_first true f o e = absurd cc
none_first false f o e = (refl, e)

not_false : (b : Bool) → not b ≡ false → b ≡ true
not_false true e = refl
not_false false e = absurd cc

or_false : (a b : Bool) → (a || b) ≡ false → (a ≡ false) × (b ≡ false)
or_false true b e = absurd cc
or_false false b e = (refl, e)

-- what a header that passes the tests keeps
pub record Passes (bytes : List ℕ) : Type 0 where
  pub long : 20 ≤ length bytes
  pub magic : number_in w16 0 bytes ≡ 20564
  pub version : number_in w8 2 bytes ≡ 2
  pub kind : is_kind (kind_in bytes) ≡ true
  pub short : 20 + len_in bytes ≤ limit
  pub len : 20 + len_in bytes ≡ length bytes
  pub from : from_in bytes < 16
  pub to : to_in bytes < 16
  pub apart : eqb (to_in bytes) (from_in bytes) ≡ false

pub passes : (bytes : List ℕ) → first_that_applies (header_tests bytes) ≡ None → Passes bytes
passes bytes e =
    let a = none_first (ltb (length bytes) 20) Short _ e in
    let b = none_first (not (eqb (number_in w16 0 bytes) 20564)) BadMagic _ a.1 in
    let c = none_first (not (eqb (number_in w8 2 bytes) 2)) BadVersion _ b.1 in
    let d = none_first (not (is_kind (kind_in bytes))) BadKind _ c.1 in
    let f = none_first (ltb limit (20 + len_in bytes)) TooLong _ d.1 in
    let g = none_first (ltb (length bytes) (20 + len_in bytes)) Short _ f.1 in
    let h = none_first (ltb (20 + len_in bytes) (length bytes)) LeftOver _ g.1 in
    let j = none_first (not (ltb (from_in bytes) 16)) (BadBody 4) _ h.1 in
    let k = none_first (not (ltb (to_in bytes) 16) || eqb (to_in bytes) (from_in bytes)) (BadBody 6) None j.1 in
    let both = or_false (not (ltb (to_in bytes) 16)) (eqb (to_in bytes) (from_in bytes)) k.0 in
    let x : 20 + len_in bytes ≤ length bytes = ltb-false _ _ g.0 in
    let y : length bytes ≤ 20 + len_in bytes = ltb-false _ _ h.0 in
    record {
      long = ltb-false (length bytes) 20 a.0;
      magic = eqb-true (number_in w16 0 bytes) 20564 (not_false _ b.0);
      version = eqb-true (number_in w8 2 bytes) 2 (not_false _ c.0);
      kind = not_false _ d.0;
      short = ltb-false limit (20 + len_in bytes) f.0;
      len = omega (arith, x, y);
      from = ltb-true (from_in bytes) 16 (not_false _ j.0);
      to = ltb-true (to_in bytes) 16 (not_false _ both.0);
      apart = both.1;
    }

-- the number at an offset, and what follows it
number_then : (w : Width) (at : ℕ) (bytes : List ℕ) → IsWide w → IsBytes bytes → at + byte_len w ≤ length bytes → drop at bytes ≡ to_be_bytes w (number_in w at bytes) ++ drop (at + byte_len w) bytes
number_then w at bytes wide is le =
    let len : length (take (byte_len w) (drop at bytes)) ≡ byte_len w = omega (arith, length-take (byte_len w) (drop at bytes), length-drop at bytes) in
    let part : to_be_bytes w (number_in w at bytes) ≡ take (byte_len w) (drop at bytes) = wide.back (take (byte_len w) (drop at bytes)) len (IsBytes-take (byte_len w) (drop at bytes) (IsBytes-drop at bytes is)) in
    let rest : drop (byte_len w) (drop at bytes) ≡ drop (at + byte_len w) bytes = rw drop-drop refl in
    sym (take-append-drop (byte_len w) (drop at bytes)) ∙ (λ i. sym part i ++ rest i)

-- a header that passes is that of the frame that it names
header_then : (bytes : List ℕ) (m : Message) → IsBytes bytes → Passes bytes → kind_in bytes ≡ kind_of m → len_in bytes ≡ length (body m) → bytes ≡ header (framed bytes m) ++ drop 20 bytes
header_then bytes m is p kind_is len_is =
    let a = number_then w16 0 bytes wide16 is (omega (arith, p.long)) in
    let b = number_then w8 2 bytes wide8 is (omega (arith, p.long)) in
    let c = number_then w8 3 bytes wide8 is (omega (arith, p.long)) in
    let d = number_then w16 4 bytes wide16 is (omega (arith, p.long)) in
    let e = number_then w16 6 bytes wide16 is (omega (arith, p.long)) in
    let f = number_then w64 8 bytes wide64 is (omega (arith, p.long)) in
    let g = number_then w32 16 bytes wide32 is (omega (arith, p.long)) in
    a ∙ (λ i. to_be_bytes w16 (p.magic i) ++ (b ∙ (λ j. to_be_bytes w8 (p.version j) ++ (c ∙ (λ k. to_be_bytes w8 (kind_is k) ++ (d ∙ (λ l. to_be_bytes w16 (from_in bytes) ++ (e ∙ (λ n. to_be_bytes w16 (to_in bytes) ++ (f ∙ (λ o. to_be_bytes w64 (number_in w64 8 bytes) ++ (g ∙ (λ q. to_be_bytes w32 (len_is q) ++ drop 20 bytes)) o)) n)) l)) k)) j)) i)

-- ---- a whole frame

abbrev refusal : FrameFault → Result Frame FrameFault
refusal fault = Err fault

abbrev answer : Frame → Result Frame FrameFault
answer f = Ok f

answer_is : (f g : Frame) → answer f ≡ answer g → f ≡ g
answer_is f g e = cc

no_answer : (fault : FrameFault) (f : Frame) → refusal fault ≡ answer f → ⊥
no_answer fault f e = cc

whole_ok : (bytes : List ℕ) (r : Result (Message × List ℕ) ℕ) (f : Frame) → whole bytes r ≡ Ok f → (p : Message × List ℕ) × ((r ≡ Ok p) × ((length p.1 ≡ 0) × (framed bytes p.0 ≡ f)))
whole_ok bytes (Err n) f e = absurd cc
whole_ok bytes (Ok p) f e =
    elim (chosen (eqb (length p.1) 0) (answer (framed bytes p.0)) (refusal (BadBody (length bytes - length p.1))) (answer f) e) [
      | inl none ↦ (p, (refl, (eqb-true (length p.1) 0 none.0, answer_is (framed bytes p.0) f none.1)))
      | inr some ↦ absurd (no_answer (BadBody (length bytes - length p.1)) f some.1)
    ]

checked_ok : (bytes : List ℕ) (o : Option FrameFault) (f : Frame) → checked bytes o ≡ Ok f → (o ≡ None) × (whole bytes (message_reader (kind_in bytes) (drop 20 bytes)) ≡ Ok f)
checked_ok bytes (Some fault) f e = absurd cc
checked_ok bytes None f e = (refl, e)

-- what is read is spelled so
pub decode_takes : (bytes : List ℕ) (f : Frame) → IsBytes bytes → decode_of bytes ≡ Ok f → Spells f bytes
unfolding decode_of
decode_takes bytes f is e =
    let a = checked_ok bytes (first_that_applies (header_tests bytes)) f e in
    let p = passes bytes a.0 in
    let w = whole_ok bytes (message_reader (kind_in bytes) (drop 20 bytes)) f a.1 in
    let t = message_takes (kind_in bytes) (drop 20 bytes) w.0 (IsBytes-drop 20 bytes is) w.1.0 in
    let nothing_left : w.0.1 ≡ [] = nil_from_length w.0.1 w.1.1.0 in
    let body_is : drop 20 bytes ≡ body w.0.0 = t.spelled ∙ ap (λ rest. body w.0.0 ++ rest) nothing_left ∙ append-nil (body w.0.0) in
    let len_is : len_in bytes ≡ length (body w.0.0) = let n : length (drop 20 bytes) ≡ length (body w.0.0) = ap length body_is in omega (arith, n, p.len, length-drop 20 bytes) in
    let spelled : bytes ≡ spelling (framed bytes w.0.0) = header_then bytes w.0.0 is p t.kind_is len_is ∙ ap (λ rest. header (framed bytes w.0.0) ++ rest) body_is in
    let apart : from_in bytes ≢ to_in bytes = λ same. eqb-false (to_in bytes) (from_in bytes) p.apart (sym same) in
    let number : number_in w64 8 bytes < 2 ^ 64 = wide64.below (take 8 (drop 8 bytes)) (IsBytes-take 8 (drop 8 bytes) (IsBytes-drop 8 bytes is)) in
    subst (λ g. Spells g bytes) w.1.1.1 (record {
      lawful = record { from = p.from; to = p.to; apart = apart; number = number; message = t.fits };
      spelled = spelled;
      short = omega (arith, p.short, p.len);
    })

-- what is spelled so is read
tests_pass : (f : Frame) → IsLawful f → length (spelling f) ≤ limit → first_that_applies (header_tests (spelling f)) ≡ None
tests_pass f law short =
    let n = length (body f.message) in
    let long : length (spelling f) ≡ 20 + n = length-append (header f) (body f.message) in
    let len : len_in (spelling f) ≡ n = wide32.again n (omega (arith, short, long)) in
    let kind : kind_in (spelling f) ≡ kind_of f.message = wide8.again (kind_of f.message) (small_kind f.message) in
    let from : from_in (spelling f) ≡ f.from = wide16.again f.from (omega (arith, law.from)) in
    let to : to_in (spelling f) ≡ f.to = wide16.again f.to (omega (arith, law.to)) in
    let a : ltb (length (spelling f)) 20 ≡ false = le-ltb _ _ (omega (arith, long)) in
    let b : is_kind (kind_in (spelling f)) ≡ true = ap is_kind kind ∙ kind_is_known f.message in
    let c : ltb limit (20 + len_in (spelling f)) ≡ false = le-ltb _ _ (omega (arith, short, long, len)) in
    let d : ltb (length (spelling f)) (20 + len_in (spelling f)) ≡ false = le-ltb _ _ (omega (arith, long, len)) in
    let e : ltb (20 + len_in (spelling f)) (length (spelling f)) ≡ false = le-ltb _ _ (omega (arith, long, len)) in
    let g : ltb (from_in (spelling f)) 16 ≡ true = lt-ltb _ _ (omega (arith, from, law.from)) in
    let h : ltb (to_in (spelling f)) 16 ≡ true = lt-ltb _ _ (omega (arith, to, law.to)) in
    let j : eqb (to_in (spelling f)) (from_in (spelling f)) ≡ false = ne_eqb _ _ (λ same. law.apart (sym (sym to ∙ same ∙ from))) in
    λ i. cond (a i) (Some Short) (cond false (Some BadMagic) (cond false (Some BadVersion) (cond (not (b i)) (Some BadKind) (cond (c i) (Some TooLong) (cond (d i) (Some Short) (cond (e i) (Some LeftOver) (cond (not (g i)) (Some (BadBody 4)) (cond (not (h i) || j i) (Some (BadBody 6)) None))))))))

frame_is : (f : Frame) → IsLawful f → framed (spelling f) f.message ≡ f
frame_is f law =
    λ i. record {
      from = wide16.again f.from (omega (arith, law.from)) i;
      to = wide16.again f.to (omega (arith, law.to)) i;
      number = wide64.again f.number law.number i;
      message = f.message;
    }

pub decode_again : (f : Frame) (bytes : List ℕ) → Spells f bytes → decode_of bytes ≡ Ok f
unfolding decode_of
decode_again f bytes s =
    let short : length (spelling f) ≤ limit = subst (λ bs. length bs ≤ limit) s.spelled s.short in
    let kind : kind_in (spelling f) ≡ kind_of f.message = wide8.again (kind_of f.message) (small_kind f.message) in
    let m : message_reader (kind_in (spelling f)) (body f.message) ≡ Ok (f.message, []) =
    ap (λ k. message_reader k (body f.message)) kind ∙ ap (message_reader (kind_of f.message)) (sym (append-nil (body f.message))) ∙ message_again f.message [] s.lawful.message in
    ap decode_of s.spelled
    ∙ ap (checked (spelling f)) (tests_pass f s.lawful short)
    ∙ ap (whole (spelling f)) m
    ∙ ap (λ g. Ok g) (frame_is f s.lawful)

-- a header that passed, a message after it, and nothing left
pub decoded : (bytes part : List ℕ) (kind : ℕ) (m : Message) (rest : List ℕ) (f : Frame) → None ≡ first_that_applies (header_tests bytes) → kind ≡ kind_in bytes → part ≡ drop 20 bytes → message_reader kind part ≡ Ok (m, rest) → true ≡ eqb (length rest) 0 → f ≡ framed bytes m → decode_of bytes ≡ answer f
unfolding decode_of
decoded bytes part kind m rest f tests kind_is part_is read_is none f_is =
    ap (checked bytes) (sym tests)
    ∙ ap (whole bytes) ((λ i. message_reader (sym kind_is i) (sym part_is i)) ∙ read_is)
    ∙ ap (λ b. cond b (answer (framed bytes m)) (refusal (BadBody (length bytes - length rest)))) (sym none)
    ∙ ap answer (sym f_is)

-- ---- refusals

refusal_is : (x y : FrameFault) → refusal x ≡ refusal y → x ≡ y
refusal_is x y e = cc

whole_err : (bytes : List ℕ) (r : Result (Message × List ℕ) ℕ) (fault : FrameFault) → IsBytes bytes → is_kind (kind_in bytes) ≡ true → message_reader (kind_in bytes) (drop 20 bytes) ≡ r → whole bytes r ≡ refusal fault → IsBodyFault bytes fault
whole_err bytes (Err left) fault is known read e =
    subst (IsBodyFault bytes) (refusal_is (BadBody (length bytes - left)) fault e)
    (record { left = left; offset = refl; bad = inl (message_faulty (kind_in bytes) (drop 20 bytes) left (IsBytes-drop 20 bytes is) known read) })
whole_err bytes (Ok p) fault is known read e =
    elim (chosen (eqb (length p.1) 0) (answer (framed bytes p.0)) (refusal (BadBody (length bytes - length p.1))) (refusal fault) e) [
      | inl none ↦ absurd (no_answer fault (framed bytes p.0) (sym none.1))
      | inr some ↦
          let t = message_takes (kind_in bytes) (drop 20 bytes) p (IsBytes-drop 20 bytes is) read in
          let other : length p.1 ≢ 0 = eqb-false (length p.1) 0 some.0 in
          subst (IsBodyFault bytes) (refusal_is (BadBody (length bytes - length p.1)) fault some.1)
          (record {
            left = length p.1;
            offset = refl;
            bad = inr (record { message = p.0; rest = p.1; kind_is = t.kind_is; fits = t.fits; spelled = t.spelled; more = omega (arith, other); left_is = refl });
          })
    ]

checked_err : (bytes : List ℕ) (o : Option FrameFault) (fault : FrameFault) → IsBytes bytes → (o ≡ None → is_kind (kind_in bytes) ≡ true) → checked bytes o ≡ refusal fault → MatchOption o (IsBodyFault bytes fault) (λ first. fault ≡ first)
checked_err bytes (Some first) fault is known e = sym (refusal_is first fault e)
checked_err bytes None fault is known e = whole_err bytes (message_reader (kind_in bytes) (drop 20 bytes)) fault is (known refl) refl e

-- what the reader refuses is refused so
pub decode_faulty : (bytes : List ℕ) (fault : FrameFault) → IsBytes bytes → decode_of bytes ≡ refusal fault → RefusesBytes bytes fault
unfolding decode_of
decode_faulty bytes fault is e = checked_err bytes (first_that_applies (header_tests bytes)) fault is (λ none. (passes bytes none).kind) e

body_refuses : (bytes : List ℕ) (fault : FrameFault) → IsBodyFault bytes fault → whole bytes (message_reader (kind_in bytes) (drop 20 bytes)) ≡ refusal fault
body_refuses bytes (BadBody at) bad =
    elim bad.bad [
      | inl fields ↦ ap (whole bytes) (message_refuses (kind_in bytes) (drop 20 bytes) bad.left fields) ∙ ap (λ n. refusal (BadBody n)) (sym bad.offset)
      | inr over ↦
          let read : message_reader (kind_in bytes) (drop 20 bytes) ≡ Ok (over.message, over.rest) =
          (λ i. message_reader (over.kind_is i) (over.spelled i)) ∙ message_again over.message over.rest over.fits in
          let some : eqb (length over.rest) 0 ≡ false = ne_eqb (length over.rest) 0 (λ none. absurd (omega (arith, over.more, none))) in
          ap (whole bytes) read
          ∙ ap (λ b. cond b (answer (framed bytes over.message)) (refusal (BadBody (length bytes - length over.rest)))) some
          ∙ ap (λ n. refusal (BadBody (length bytes - n))) (sym over.left_is)
          ∙ ap (λ n. refusal (BadBody n)) (sym bad.offset)
    ]
body_refuses bytes Short bad = absurd bad
body_refuses bytes BadMagic bad = absurd bad
body_refuses bytes BadVersion bad = absurd bad
body_refuses bytes BadKind bad = absurd bad
body_refuses bytes TooLong bad = absurd bad
body_refuses bytes LeftOver bad = absurd bad
body_refuses bytes Memory bad = absurd bad

checked_refuses : (bytes : List ℕ) (o : Option FrameFault) (fault : FrameFault) → MatchOption o (IsBodyFault bytes fault) (λ first. fault ≡ first) → checked bytes o ≡ refusal fault
checked_refuses bytes (Some first) fault same = ap refusal (sym same)
checked_refuses bytes None fault bad = body_refuses bytes fault bad

-- what is refused so the reader refuses
pub decode_refuses : (bytes : List ℕ) (fault : FrameFault) → RefusesBytes bytes fault → decode_of bytes ≡ refusal fault
unfolding decode_of
decode_refuses bytes fault bad = checked_refuses bytes (first_that_applies (header_tests bytes)) fault bad

-- ---- laws

pub one_frame : (f g : Frame) (bytes : List ℕ) → Spells f bytes → Spells g bytes → f ≡ g
one_frame f g bytes s t = answer_is f g (sym (decode_again f bytes s) ∙ decode_again g bytes t)

pub one_spelling : (f : Frame) (bytes others : List ℕ) → Spells f bytes → Spells f others → bytes ≡ others
one_spelling f bytes others s t = s.spelled ∙ sym t.spelled

pub one_refusal : (bytes : List ℕ) (x y : FrameFault) → RefusesBytes bytes x → RefusesBytes bytes y → x ≡ y
one_refusal bytes x y a b = refusal_is x y (sym (decode_refuses bytes x a) ∙ decode_refuses bytes y b)

pub never_both : (f : Frame) (bytes : List ℕ) (x : FrameFault) → Spells f bytes → RefusesBytes bytes x → ⊥
never_both f bytes x s bad = no_answer x f (sym (decode_refuses bytes x bad) ∙ decode_again f bytes s)

pub no_proper_prefix : (f g : Frame) (bytes rest : List ℕ) → Spells f bytes → Spells g (bytes ++ rest) → rest ≡ []
no_proper_prefix f g bytes rest s t =
    let short : length (spelling g) ≤ limit = subst (λ bs. length bs ≤ limit) t.spelled t.short in
    let p = passes (spelling g) (tests_pass g t.lawful short) in
    let same : spelling g ≡ spelling f ++ rest = sym t.spelled ∙ ap (λ bs. bs ++ rest) s.spelled in
    let short_f : length (spelling f) ≤ limit = subst (λ bs. length bs ≤ limit) s.spelled s.short in
    let long : length (spelling f) ≡ 20 + length (body f.message) = length-append (header f) (body f.message) in
    let len : len_in (spelling f ++ rest) ≡ length (body f.message) = wide32.again (length (body f.message)) (omega (arith, short_f, long)) in
    let whole_len : 20 + len_in (spelling f ++ rest) ≡ length (spelling f ++ rest) = subst (λ bs. 20 + len_in bs ≡ length bs) same p.len in
    nil_from_length rest (omega (arith, whole_len, len, long, length-append (spelling f) rest))

-- ---- what a call answered

pub answers_frame : (bytes : List ℕ) (r : Result Frame FrameFault) → IsBytes bytes → Decodes r (decode_of bytes) → IfOk r (λ f. Spells f bytes)
answers_frame bytes (Ok f) is given = decode_takes bytes f is given
answers_frame bytes (Err e) is given = tt

pub answers_refusal : (bytes : List ℕ) (r : Result Frame FrameFault) → IsBytes bytes → Decodes r (decode_of bytes) → IfErr r (λ x. (x ≡ Memory) ⊎ RefusesBytes bytes x)
answers_refusal bytes (Ok f) is given = tt
answers_refusal bytes (Err x) is given = elim given [ inl memory ↦ inl memory | inr read ↦ inr (decode_faulty bytes x is read) ]

bytes_are : (bytes : List ℕ) → All (λ b. b < 256) bytes → IsBytes bytes
bytes_are bytes all i =
    elim (cases_lt i (length bytes)) [
      | inl lt ↦ all i 0 lt
      | inr le ↦ rw (get_or_past bytes i 0 le) (omega arith)
    ]

pub frame_or_refusal : (bytes : List ℕ) → All (λ b. b < 256) bytes → ((f : Frame) × Spells f bytes) ⊎ ((x : FrameFault) × RefusesBytes bytes x)
frame_or_refusal bytes all =
    let is : IsBytes bytes = bytes_are bytes all in
    elim (decode_of bytes) as (λ r. decode_of bytes ≡ r → ((f : Frame) × Spells f bytes) ⊎ ((x : FrameFault) × RefusesBytes bytes x)) [
      | Ok f ↦ λ e. inl (f, decode_takes bytes f is e)
      | Err x ↦ λ e. inr (x, decode_faulty bytes x is e)
    ] refl
