-- A reader and a form belong together: what is read is spelled, what is spelled is read, and the reader's
-- faults are the form's.
use Rattle.std.proofs.Common.{◌≡◌, ℕ, zero, suc, ◌+◌, ◌*◌, ◌^◌, ◌%◌, ◌<◌, ◌≤◌, ◌⊎◌, Bool, true, false, cond, ltb, List, [], ◌∷◌, ◌++◌, length, get_or, take, drop, Result, Ok, Err, refl, sym, ap, subst, ◌∙◌, append_assoc, arith, inl, inr}
use Rattle.std.specs.Int.{Width, w8, w16, w32, w64, byte_len, from_be_bytes, to_be_bytes}
use Rattle.std.proofs.lemmas.Bool.{cases_lt, ltb-false, ltb-true, le-ltb, lt-ltb}
use Rattle.std.proofs.lemmas.List.{take_at, drop_at, take-append-drop, length-append, length-take, get_or-drop, get_or-take, get_or_past}
use Rattle.std.proofs.lemmas.Nat.{be_bytes_2, be_bytes_4, be_bytes_8, from_be_bytes-to_be_bytes_2, from_be_bytes-to_be_bytes_4, from_be_bytes-to_be_bytes_8}
use Rattle.frame_fields.specs.Form.{Form, any_number, some_bytes, no_bytes, ruled, then_form, seen_as, EachFits, spell_each, state_after, BadAmong, each}
use Rattle.frame_readers.specs.Reader.{Reader, ◌>>=◌, number_reader, bytes_reader, ruled_reader, then_reader, made_reader, each_reader}

abbrev pub IsBytes : List ℕ → Type 0
IsBytes bytes = (i : ℕ) → get_or bytes i 0 < 256

pub IsBytes-drop : (n : ℕ) (bytes : List ℕ) → IsBytes bytes → IsBytes (drop n bytes)
IsBytes-drop n bytes h i = rw get_or-drop (h (n + i))

pub IsBytes-take : (n : ℕ) (bytes : List ℕ) → IsBytes bytes → IsBytes (take n bytes)
IsBytes-take n bytes h i =
    elim (cases_lt i n) [
      | inl lt ↦ rw (get_or-take n bytes i 0 lt) (h i)
      | inr le ↦ rw (get_or_past (take n bytes) i 0 (omega (arith, length-take n bytes))) (omega arith)
    ]

IsBytes-behind : (front rest : List ℕ) → IsBytes (front ++ rest) → IsBytes rest
IsBytes-behind [] rest h = h
IsBytes-behind (b ∷ front) rest h = IsBytes-behind front rest (λ i. h (suc i))

pub IsBytes-rest : (bytes front rest : List ℕ) → bytes ≡ front ++ rest → IsBytes bytes → IsBytes rest
IsBytes-rest bytes front rest e h = IsBytes-behind front rest (subst IsBytes e h)

pub record Reads {A : Type 0} (form : Form A) (read : Reader A) : Type 0 where
  pub takes : (bytes : List ℕ) (x : A) (rest : List ℕ) → IsBytes bytes → read bytes ≡ Ok (x, rest) → form.Fits x × (bytes ≡ form.spell x ++ rest)
  pub again : (x : A) (rest : List ℕ) → form.Fits x → read (form.spell x ++ rest) ≡ Ok (x, rest)
  pub faulty : (bytes : List ℕ) (left : ℕ) → IsBytes bytes → read bytes ≡ Err left → form.Bad bytes left
  pub refuses : (bytes : List ℕ) (left : ℕ) → form.Bad bytes left → read bytes ≡ Err left

-- ---- steps

abbrev pub done : {A : Type 0} → A → Result A ℕ
done x = Ok x

pub ok_is : {A : Type 0} (x y : A) → done x ≡ done y → x ≡ y
ok_is x y e = cc

abbrev failed : {A : Type 0} → ℕ → Result A ℕ
failed n = Err n

pub err_is : {A : Type 0} (m n : ℕ) → failed {A = A} m ≡ failed n → m ≡ n
err_is m n e = cc

pub bind_ok : {A B : Type 0} (r : Result A ℕ) (f : A → Result B ℕ) (y : B) → (r >>= f) ≡ Ok y → (x : A) × ((r ≡ Ok x) × (f x ≡ Ok y))
bind_ok (Ok x) f y e = (x, (refl, e))
bind_ok (Err d) f y e = absurd cc

pub bind_err : {A B : Type 0} (r : Result A ℕ) (f : A → Result B ℕ) (n : ℕ) → (r >>= f) ≡ Err n → (r ≡ Err n) ⊎ ((x : A) × ((r ≡ Ok x) × (f x ≡ Err n)))
bind_err (Ok x) f n e = inr (x, (refl, e))
bind_err {A} {B} (Err d) f n e = inl (ap (λ m. Err m) (err_is {A = B} d n e))

-- a test that cut nothing, or cut
guard_ok : {A : Type 0} (b : Bool) (d : ℕ) (r : Result A ℕ) (y : A) → cond b (Err d) r ≡ Ok y → (b ≡ false) × (r ≡ Ok y)
guard_ok true d r y e = absurd cc
guard_ok false d r y e = (refl, e)

guard_err : {A : Type 0} (b : Bool) (d : ℕ) (x : A) (n : ℕ) → cond b (Err d) (done x) ≡ Err n → (b ≡ true) × (d ≡ n)
guard_err {A} true d x n e = (refl, err_is {A = A} d n e)
guard_err false d x n e = absurd cc

rule_ok : {A : Type 0} (b : Bool) (x : A) (d : ℕ) (y : A) → cond b (done x) (Err d) ≡ Ok y → (b ≡ true) × (x ≡ y)
rule_ok true x d y e = (refl, ok_is x y e)
rule_ok false x d y e = absurd cc

rule_err : {A : Type 0} (b : Bool) (x : A) (d n : ℕ) → cond b (done x) (Err d) ≡ Err n → (b ≡ false) × (d ≡ n)
rule_err true x d n e = absurd cc
rule_err {A} false x d n e = (refl, err_is {A = A} d n e)

-- ---- numbers

one_byte : (bytes : List ℕ) → length bytes ≡ 1 → IsBytes bytes → to_be_bytes w8 (from_be_bytes w8 bytes) ≡ bytes
one_byte [] len fits = absurd (omega arith)
one_byte (b ∷ []) len fits = let small : b < 256 = fits 0 in let e : from_be_bytes w8 (b ∷ []) % 256 ≡ b = omega arith in ap (λ (n : ℕ). n ∷ []) e
one_byte (b ∷ c ∷ bytes) len fits = absurd (omega arith)

one_number : (n : ℕ) → n < 2 ^ 8 → from_be_bytes w8 (to_be_bytes w8 n) ≡ n
one_number n lt = omega arith

pub record IsWide (w : Width) : Type 0 where
  pub len : (n : ℕ) → length (to_be_bytes w n) ≡ byte_len w
  pub back : (bytes : List ℕ) → length bytes ≡ byte_len w → IsBytes bytes → to_be_bytes w (from_be_bytes w bytes) ≡ bytes
  pub again : (n : ℕ) → n < 2 ^ (8 * byte_len w) → from_be_bytes w (to_be_bytes w n) ≡ n
  pub below : (bytes : List ℕ) → IsBytes bytes → from_be_bytes w bytes < 2 ^ (8 * byte_len w)

pub wide8 : IsWide w8
wide8 = record {
  len = λ n. refl;
  back = λ bytes len fits. one_byte bytes len fits;
  again = λ n lt. one_number n lt;
  below = λ bytes fits. omega (arith, fits 0);
}

pub wide16 : IsWide w16
wide16 = record {
  len = λ n. refl;
  back = λ bytes len fits. be_bytes_2 bytes _ len fits refl;
  again = λ n lt. from_be_bytes-to_be_bytes_2 n lt;
  below = λ bytes fits. omega (arith, fits 0, fits 1);
}

pub wide32 : IsWide w32
wide32 = record {
  len = λ n. refl;
  back = λ bytes len fits. be_bytes_4 bytes _ len fits refl;
  again = λ n lt. from_be_bytes-to_be_bytes_4 n lt;
  below = λ bytes fits. omega (arith, fits 0, fits 1, fits 2, fits 3);
}

pub wide64 : IsWide w64
wide64 = record {
  len = λ n. refl;
  back = λ bytes len fits. be_bytes_8 bytes _ len fits refl;
  again = λ n lt. from_be_bytes-to_be_bytes_8 n lt;
  below = λ bytes fits. omega (arith, fits 0, fits 1, fits 2, fits 3, fits 4, fits 5, fits 6, fits 7);
}

number_takes : (w : Width) → IsWide w → (bytes : List ℕ) (n : ℕ) (rest : List ℕ) → IsBytes bytes → number_reader w bytes ≡ Ok (n, rest) → (n < 2 ^ (8 * byte_len w)) × (bytes ≡ to_be_bytes w n ++ rest)
number_takes w wide bytes n rest fits e =
    let g = guard_ok (ltb (length bytes) (byte_len w)) (length bytes) (Ok (from_be_bytes w (take (byte_len w) bytes), drop (byte_len w) bytes)) (n, rest) e in
    let long : byte_len w ≤ length bytes = ltb-false _ _ g.0 in
    let is = ok_is (from_be_bytes w (take (byte_len w) bytes), drop (byte_len w) bytes) (n, rest) g.1 in
    let n-is : from_be_bytes w (take (byte_len w) bytes) ≡ n = ap (λ (p : ℕ × List ℕ). p.0) is in
    let rest-is : drop (byte_len w) bytes ≡ rest = ap (λ (p : ℕ × List ℕ). p.1) is in
    let front : to_be_bytes w n ≡ take (byte_len w) bytes = rw (← n-is) (wide.back (take (byte_len w) bytes) (omega (arith, length-take (byte_len w) bytes)) (IsBytes-take (byte_len w) bytes fits)) in
    (rw (← n-is) (wide.below (take (byte_len w) bytes) (IsBytes-take (byte_len w) bytes fits)), rw (front, ← rest-is) (sym (take-append-drop (byte_len w) bytes)))

number_again : (w : Width) → IsWide w → (n : ℕ) (rest : List ℕ) → n < 2 ^ (8 * byte_len w) → number_reader w (to_be_bytes w n ++ rest) ≡ Ok (n, rest)
number_again w wide n rest lt =
    let len = wide.len n in
    let long : ltb (length (to_be_bytes w n ++ rest)) (byte_len w) ≡ false = le-ltb _ _ (omega (arith, length-append (to_be_bytes w n) rest)) in
    rw (long, take_at (to_be_bytes w n) rest (byte_len w) len, drop_at (to_be_bytes w n) rest (byte_len w) len, wide.again n lt) refl

pub number_reads : (w : Width) → IsWide w → Reads (any_number w) (number_reader w)
number_reads w wide = record {
  takes = number_takes w wide;
  again = number_again w wide;
  faulty = λ bytes left is e.
      let g = guard_err (ltb (length bytes) (byte_len w)) (length bytes) (from_be_bytes w (take (byte_len w) bytes), drop (byte_len w) bytes) left e in
      (ltb-true (length bytes) (byte_len w) g.0, sym g.1);
  refuses = λ bytes left cut. rw (lt-ltb (length bytes) (byte_len w) cut.0) (ap (λ n. Err n) (sym cut.1));
}

-- ---- bytes

pub bytes_reads : (size : ℕ) → Reads (some_bytes size) (bytes_reader size)
bytes_reads size = record {
  takes = λ bytes x rest is e.
      let g = guard_ok (ltb (length bytes) size) (length bytes) (Ok (take size bytes, drop size bytes)) (x, rest) e in
      let long : size ≤ length bytes = ltb-false _ _ g.0 in
      let same = ok_is (take size bytes, drop size bytes) (x, rest) g.1 in
      subst (λ (p : List ℕ × List ℕ). (length p.0 ≡ size) × (bytes ≡ p.0 ++ p.1)) same (omega (arith, length-take size bytes), sym (take-append-drop size bytes));
  again = λ x rest fits.
      let long : ltb (length (x ++ rest)) size ≡ false = le-ltb _ _ (omega (arith, length-append x rest)) in
      rw (long, take_at x rest size fits, drop_at x rest size fits) refl;
  faulty = λ bytes left is e.
      let g = guard_err (ltb (length bytes) size) (length bytes) (take size bytes, drop size bytes) left e in
      (ltb-true (length bytes) size g.0, sym g.1);
  refuses = λ bytes left cut. rw (lt-ltb (length bytes) size cut.0) (ap (λ n. Err n) (sym cut.1));
}

pub nothing_reads : {A : Type 0} (x : A) → Reads (no_bytes x) (λ bytes. Ok (x, bytes))
nothing_reads x = record {
  takes = λ bytes y rest is e. let same = ok_is (x, bytes) (y, rest) e in (sym (ap (λ p. p.0) same), ap (λ p. p.1) same);
  again = λ y rest fits. λ i. Ok (sym fits i, rest);
  faulty = λ bytes left is e. absurd cc;
  refuses = λ bytes left bad. absurd bad;
}

-- ---- a further rule

pub ruled_reads : {A : Type 0} (form : Form A) (read : Reader A) (rule : A → Bool) → Reads form read → Reads (ruled form rule) (ruled_reader read rule)
ruled_reads form read rule reads = record {
  takes = λ bytes x rest is e.
      let b = bind_ok (read bytes) (λ y. cond (rule y.0) (Ok y) (Err (length bytes))) (x, rest) e in
      let r = rule_ok (rule b.0.0) b.0 (length bytes) (x, rest) b.1.1 in
      let t = reads.takes bytes b.0.0 b.0.1 is b.1.0 in
      subst (λ p. (form.Fits p.0 × (rule p.0 ≡ true)) × (bytes ≡ form.spell p.0 ++ p.1)) r.1 ((t.0, r.0), t.1);
  again = λ x rest fits. rw (reads.again x rest fits.0, fits.1) refl;
  faulty = λ bytes left is e.
      elim (bind_err (read bytes) (λ y. cond (rule y.0) (Ok y) (Err (length bytes))) left e) [
        | inl bad ↦ inl (reads.faulty bytes left is bad)
        | inr b ↦
            let r = rule_err (rule b.0.0) b.0 (length bytes) left b.1.1 in
            let t = reads.takes bytes b.0.0 b.0.1 is b.1.0 in
            inr (record { value = b.0.0; rest = b.0.1; fits = t.0; spelled = t.1; broken = r.0; left_is = sym r.1 })
      ];
  refuses = λ bytes left bad. elim bad [
    | inl first ↦ rw (reads.refuses bytes left first) refl
    | inr b ↦
        ap (λ bs. read bs >>= λ y. cond (rule y.0) (Ok y) (Err (length bytes))) b.spelled
        ∙ ap (λ r. r >>= λ y. cond (rule y.0) (Ok y) (Err (length bytes))) (reads.again b.value b.rest b.fits)
        ∙ ap (λ t. cond t (Ok (b.value, b.rest)) (Err (length bytes))) b.broken
        ∙ ap (λ n. Err n) (sym b.left_is)
  ];
}

-- ---- one field and then another

pub then_reads : {A B : Type 0} (first : Form A) (second : A → Form B) (read : Reader A) (next : A → Reader B) → Reads first read → ((x : A) → Reads (second x) (next x)) → Reads (then_form first second) (then_reader read next)
then_reads {A} {B} first second read next one two = record {
  takes = λ bytes x rest is e.
      let a = bind_ok (read bytes) (λ p. next p.0 p.1 >>= λ q. Ok ((p.0, q.0), q.1)) (x, rest) e in
      let b = bind_ok (next a.0.0 a.0.1) (λ q. Ok ((a.0.0, q.0), q.1)) (x, rest) a.1.1 in
      let t = one.takes bytes a.0.0 a.0.1 is a.1.0 in
      let u = (two a.0.0).takes a.0.1 b.0.0 b.0.1 (IsBytes-rest bytes (first.spell a.0.0) a.0.1 t.1 is) b.1.0 in
      let whole : bytes ≡ (first.spell a.0.0 ++ (second a.0.0).spell b.0.0) ++ b.0.1 =
      t.1 ∙ ap (λ bs. first.spell a.0.0 ++ bs) u.1 ∙ sym (append_assoc (first.spell a.0.0) ((second a.0.0).spell b.0.0) b.0.1) in
      let made : (A × B) × List ℕ = ((a.0.0, b.0.0), b.0.1) in
      subst (λ (p : (A × B) × List ℕ). (first.Fits p.0.0 × (second p.0.0).Fits p.0.1) × (bytes ≡ (first.spell p.0.0 ++ (second p.0.0).spell p.0.1) ++ p.1)) (ok_is made (x, rest) b.1.1) ((t.0, u.0), whole);
  again = λ x rest fits.
      ap (then_reader read next) (append_assoc (first.spell x.0) ((second x.0).spell x.1) rest)
      ∙ rw (one.again x.0 ((second x.0).spell x.1 ++ rest) fits.0, (two x.0).again x.1 rest fits.1) refl;
  faulty = λ bytes left is e.
      elim (bind_err (read bytes) (λ p. next p.0 p.1 >>= λ q. Ok ((p.0, q.0), q.1)) left e) [
        | inl bad ↦ inl (one.faulty bytes left is bad)
        | inr a ↦
            let t = one.takes bytes a.0.0 a.0.1 is a.1.0 in
            elim (bind_err (next a.0.0 a.0.1) (λ q. Ok ((a.0.0, q.0), q.1)) left a.1.1) [
              | inl bad ↦ inr (record { value = a.0.0; rest = a.0.1; fits = t.0; spelled = t.1; bad = (two a.0.0).faulty a.0.1 left (IsBytes-rest bytes (first.spell a.0.0) a.0.1 t.1 is) bad })
              | inr b ↦ absurd (let no : done ((a.0.0, b.0.0), b.0.1) ≡ Err left = b.1.1 in cc)
            ]
      ];
  refuses = λ bytes left bad. elim bad [
    | inl one_bad ↦ rw (one.refuses bytes left one_bad) refl
    | inr b ↦
        ap (then_reader read next) b.spelled
        ∙ rw (one.again b.value b.rest b.fits, (two b.value).refuses b.rest left b.bad) refl
  ];
}

-- ---- the same bytes as another type

pub made_reads : {A B : Type 0} (form : Form A) (read : Reader A) (parts : B → A) (make : A → B) → ((x : A) → form.Fits x → parts (make x) ≡ x) → ((y : B) → make (parts y) ≡ y) → Reads form read → Reads (seen_as form parts) (made_reader read make)
made_reads {A} {B} form read parts make there back reads = record {
  takes = λ bytes y rest is e.
      let b = bind_ok (read bytes) (λ x. Ok (make x.0, x.1)) (y, rest) e in
      let t = reads.takes bytes b.0.0 b.0.1 is b.1.0 in
      let same : parts (make b.0.0) ≡ b.0.0 = there b.0.0 t.0 in
      let made : B × List ℕ = (make b.0.0, b.0.1) in
      subst (λ (p : B × List ℕ). form.Fits (parts p.0) × (bytes ≡ form.spell (parts p.0) ++ p.1)) (ok_is made (y, rest) b.1.1)
      (subst form.Fits (sym same) t.0, t.1 ∙ ap (λ x. form.spell x ++ b.0.1) (sym same));
  again = λ y rest fits. rw (reads.again (parts y) rest fits) (λ i. Ok (back y i, rest));
  faulty = λ bytes left is e.
      elim (bind_err (read bytes) (λ x. Ok (make x.0, x.1)) left e) [
        | inl bad ↦ reads.faulty bytes left is bad
        | inr b ↦ absurd (let no : done (make b.0.0, b.0.1) ≡ Err left = b.1.1 in cc)
      ];
  refuses = λ bytes left bad. rw (reads.refuses bytes left bad) refl;
}

-- ---- one after another

each_takes : {S A : Type 0} (form : S → Form A) (read : S → Reader A) (next : A → S) → ((s : S) → Reads (form s) (read s)) → (n : ℕ) (s : S) (bytes : List ℕ) (xs : List A) (rest : List ℕ) → IsBytes bytes → each_reader read next s n bytes ≡ Ok (xs, rest)
    → ((length xs ≡ n) × EachFits form next s xs) × (bytes ≡ spell_each form next s xs ++ rest)
unfolding each_reader
each_takes {A = A} form read next reads zero s bytes xs rest is e =
    subst (λ (p : List A × List ℕ). ((length p.0 ≡ 0) × EachFits form next s p.0) × (bytes ≡ spell_each form next s p.0 ++ p.1)) (ok_is ([], bytes) (xs, rest) e) ((refl, tt), refl)
each_takes {A = A} form read next reads (suc n) s bytes xs rest is e =
    let a = bind_ok (read s bytes) (λ first. each_reader read next (next first.0) n first.1 >>= λ others. Ok (first.0 ∷ others.0, others.1)) (xs, rest) e in
    let b = bind_ok (each_reader read next (next a.0.0) n a.0.1) (λ others. Ok (a.0.0 ∷ others.0, others.1)) (xs, rest) a.1.1 in
    let t = (reads s).takes bytes a.0.0 a.0.1 is a.1.0 in
    let u = each_takes form read next reads n (next a.0.0) a.0.1 b.0.0 b.0.1 (IsBytes-rest bytes ((form s).spell a.0.0) a.0.1 t.1 is) b.1.0 in
    let made : List A × List ℕ = (a.0.0 ∷ b.0.0, b.0.1) in
    let whole : bytes ≡ ((form s).spell a.0.0 ++ spell_each form next (next a.0.0) b.0.0) ++ b.0.1 =
    t.1 ∙ ap (λ bs. (form s).spell a.0.0 ++ bs) u.1 ∙ sym (append_assoc ((form s).spell a.0.0) (spell_each form next (next a.0.0) b.0.0) b.0.1) in
    subst (λ (p : List A × List ℕ). ((length p.0 ≡ suc n) × EachFits form next s p.0) × (bytes ≡ spell_each form next s p.0 ++ p.1)) (ok_is made (xs, rest) b.1.1) ((ap suc u.0.0, (t.0, u.0.1)), whole)

each_again : {S A : Type 0} (form : S → Form A) (read : S → Reader A) (next : A → S) → ((s : S) → Reads (form s) (read s)) → (s : S) (xs : List A) (rest : List ℕ) → EachFits form next s xs
    → each_reader read next s (length xs) (spell_each form next s xs ++ rest) ≡ Ok (xs, rest)
unfolding each_reader
each_again form read next reads s [] rest fit = refl
each_again form read next reads s (x ∷ xs) rest fit =
    ap (each_reader read next s (suc (length xs))) (append_assoc ((form s).spell x) (spell_each form next (next x) xs) rest)
    ∙ rw ((reads s).again x (spell_each form next (next x) xs ++ rest) fit.0, each_again form read next reads (next x) xs rest fit.1) refl

each_faulty : {S A : Type 0} (form : S → Form A) (read : S → Reader A) (next : A → S) → ((s : S) → Reads (form s) (read s)) → (n : ℕ) (s : S) (bytes : List ℕ) (left : ℕ) → IsBytes bytes → each_reader read next s n bytes ≡ Err left → BadAmong form next n s bytes left
unfolding each_reader
each_faulty form read next reads zero s bytes left is e = absurd cc
each_faulty form read next reads (suc n) s bytes left is e =
    elim (bind_err (read s bytes) (λ first. each_reader read next (next first.0) n first.1 >>= λ others. Ok (first.0 ∷ others.0, others.1)) left e) [
      | inl bad ↦ record { before = []; rest = bytes; fewer = omega arith; fit = tt; spelled = refl; bad = (reads s).faulty bytes left is bad }
      | inr a ↦
          let t = (reads s).takes bytes a.0.0 a.0.1 is a.1.0 in
          elim (bind_err (each_reader read next (next a.0.0) n a.0.1) (λ others. Ok (a.0.0 ∷ others.0, others.1)) left a.1.1) [
            | inl bad ↦
                let u = each_faulty form read next reads n (next a.0.0) a.0.1 left (IsBytes-rest bytes ((form s).spell a.0.0) a.0.1 t.1 is) bad in
                record {
                  before = a.0.0 ∷ u.before;
                  rest = u.rest;
                  fewer = omega (arith, u.fewer);
                  fit = (t.0, u.fit);
                  spelled = t.1 ∙ ap (λ bs. (form s).spell a.0.0 ++ bs) u.spelled ∙ sym (append_assoc ((form s).spell a.0.0) (spell_each form next (next a.0.0) u.before) u.rest);
                  bad = u.bad;
                }
            | inr b ↦ absurd (let no : done (a.0.0 ∷ b.0.0, b.0.1) ≡ Err left = b.1.1 in cc)
          ]
    ]

each_refuses : {S A : Type 0} (form : S → Form A) (read : S → Reader A) (next : A → S) → ((s : S) → Reads (form s) (read s)) → (n : ℕ) (s : S) (before : List A) (rest : List ℕ) (left : ℕ) → length before < n → EachFits form next s before → (form (state_after next s before)).Bad rest left → each_reader read next s n (spell_each form next s before ++ rest) ≡ Err left
unfolding each_reader
each_refuses form read next reads zero s before rest left lt fit bad = absurd (omega arith)
each_refuses form read next reads (suc n) s [] rest left lt fit bad = rw ((reads s).refuses rest left bad) refl
each_refuses form read next reads (suc n) s (x ∷ before) rest left lt fit bad =
    ap (each_reader read next s (suc n)) (append_assoc ((form s).spell x) (spell_each form next (next x) before) rest)
    ∙ rw ((reads s).again x (spell_each form next (next x) before ++ rest) fit.0, each_refuses form read next reads n (next x) before rest left (omega (arith, lt)) fit.1 bad) refl

pub each_reads : {S A : Type 0} (form : S → Form A) (read : S → Reader A) (next : A → S) → ((s : S) → Reads (form s) (read s)) → (s : S) (count : ℕ) → Reads (each form next s count) (each_reader read next s count)
each_reads form read next reads s count = record {
  takes = λ bytes xs rest is e. each_takes form read next reads count s bytes xs rest is e;
  again = λ xs rest fits. ap (λ n. each_reader read next s n (spell_each form next s xs ++ rest)) (sym fits.0) ∙ each_again form read next reads s xs rest fits.1;
  faulty = λ bytes left is e. each_faulty form read next reads count s bytes left is e;
  refuses = λ bytes left bad. ap (each_reader read next s count) bad.spelled ∙ each_refuses form read next reads count s bad.before bad.rest left bad.fewer bad.fit bad.bad;
}
