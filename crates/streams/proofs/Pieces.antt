-- Reading in pieces, and the lines in them.
use Rattle.std.proofs.Common.{◌≡◌, ◌≢◌, ℕ, zero, suc, ◌+◌, ◌-◌, ◌<◌, ◌≤◌, true, false, List, [], ◌∷◌, ◌++◌, length, take, drop, get_or, slice_range, Option, Some, None, is_some, ◌↔◌, refl, sym, ap, subst, ◌∙◌, append_assoc, arith, nat_lt}
use Rattle.std.proofs.lemmas.List.{append-nil, take_all, drop-take, drop-drop, length-take, length-drop, get_or-take}
use Rattle.std.proofs.lemmas.List.Elements.{All-from_get_or, All-get_or}
use Rattle.std.proofs.lemmas.Bool.{eqb-true, lt-ltb}
use Rattle.std.specs.Io.KnownBytes.{Consumes, IsAtEnd}
use Rattle.memchr.specs.Find.{IsFirstByte, is_byte}
use Rattle.streams.specs.Line.{IsOneLine, Fills, Moves}

pub Consumes-nil : (r : Option (List ℕ)) → Consumes r r []
Consumes-nil None = tt
Consumes-nil (Some xs) = refl

pub Consumes-then : (a b c : Option (List ℕ)) (x y : List ℕ) → Consumes a b x → Consumes b c y → Consumes a c (x ++ y)
Consumes-then None b c x y p q = tt
Consumes-then (Some xs) None c x y p q = absurd p
Consumes-then (Some xs) (Some ys) None x y p q = absurd q
Consumes-then (Some xs) (Some ys) (Some zs) x y p q = p ∙ ap (λ (t : List ℕ). x ++ t) q ∙ sym (append_assoc x y zs)

length-slice : (xs : List ℕ) (a b : ℕ) → a ≤ b → b ≤ length xs → length (slice_range xs a b) ≡ b - a
length-slice xs a b ab within = omega (arith, length-take (b - a) (drop a xs), length-drop a xs)

slice-none : (xs : List ℕ) (a b : ℕ) → b ≤ a → slice_range xs a b ≡ []
slice-none xs a b le = let none : b - a ≡ 0 = omega arith in rw none refl

slice-first : (xs : List ℕ) (n : ℕ) → slice_range xs 0 n ≡ take n xs
slice-first xs n = let all : n - 0 ≡ n = omega arith in rw all refl

-- something was pending
pub fills_pending : (piece : List ℕ) (start end left : ℕ) (r : Option (List ℕ)) → start < end → end ≤ length piece
    → Fills (record { bytes = slice_range piece start end; left = left }) (record { bytes = slice_range piece start end; left = left }) r r true
fills_pending piece start end left r lt within = record {
  reads = record { bytes = []; consumed = Consumes-nil r; counted = omega arith };
  pending = sym (append-nil (slice_range piece start end));
  answer = let len = length-slice piece start end (omega arith) within in omega arith;
}

-- a piece was read
pub fills_read : (old piece : List ℕ) (start end left n : ℕ) (r s : Option (List ℕ)) → end ≤ start → n ≤ left → n ≤ length piece
    → Consumes r s (take n piece) → (n ≡ 0 → IsAtEnd s)
    → Fills (record { bytes = slice_range old start end; left = left }) (record { bytes = slice_range piece 0 n; left = left - n }) r s (nat_lt 0 n)
fills_read old piece start end left zero r s none fits within consumed at_end = record {
  reads = record { bytes = []; consumed = consumed; counted = omega arith };
  pending = ap (λ bytes. bytes ++ []) (sym (slice-none old start end none));
  answer = (refl, at_end refl);
}
fills_read old piece start end left (suc n) r s none fits within consumed at_end = record {
  reads = record { bytes = take (suc n) piece; consumed = consumed; counted = omega (arith, length-take (suc n) piece) };
  pending = slice-first piece (suc n) ∙ ap (λ bytes. bytes ++ take (suc n) piece) (sym (slice-none old start end none));
  answer =
      let len = length-slice piece 0 (suc n) (omega arith) within in
      let some : 0 < length (slice_range piece 0 (suc n)) = omega arith in
      rw (lt-ltb 0 (suc n) (omega arith)) some;
}

-- no line feed stands before place `n`
one_line_before : (xs : List ℕ) (n : ℕ) → ((k : ℕ) → 0 ≤ k → k < n → is_byte 10 (get_or xs k 0) ≡ true → ⊥) → IsOneLine (take n xs)
one_line_before xs n none =
    All-from_get_or (λ x. x ≢ 10) (take n xs) 0
    (λ i lt e. let within : i < n = omega (arith, length-take n xs) in
    none i (omega arith) within (rw (sym (get_or-take n xs i 0 within) ∙ e) refl))

-- a line feed stands at place `n`
text_at : (xs : List ℕ) (n : ℕ) → n < length xs → is_byte 10 (get_or xs n 0) ≡ true → xs ≡ take n xs ++ 10 ∷ drop (suc n) xs
text_at [] n lt e = absurd (omega arith)
text_at (x ∷ xs) zero lt e = ap (λ y. y ∷ xs) (eqb-true x 10 e)
text_at (x ∷ xs) (suc n) lt e = ap (λ ys. x ∷ ys) (text_at xs n (omega arith) e)

slice-drop : (xs : List ℕ) (a b n : ℕ) → a + suc n ≤ b → drop (suc n) (slice_range xs a b) ≡ slice_range xs (a + (n + 1)) b
slice-drop xs a b n le =
    let split : b - a ≡ suc n + (b - (a + (n + 1))) = omega arith in
    let more : a + (n + 1) ≡ a + suc n = omega arith in
    ap (λ k. drop (suc n) (take k (drop a xs))) split ∙ drop-take (suc n) (b - (a + (n + 1))) (drop a xs)
    ∙ ap (λ ys. take (b - (a + (n + 1))) ys) (drop-drop (suc n) a xs ∙ ap (λ k. drop k xs) (sym more))

-- a line feed was found in what is pending
pub moves_line : (piece : List ℕ) (start end left n : ℕ) (old new : List ℕ) → start ≤ end → end ≤ length piece
    → IsFirstByte (is_byte 10) (slice_range piece start end) (Some n) → new ≡ old ++ take n (slice_range piece start end)
    → Moves (record { bytes = slice_range piece start end; left = left }) (record { bytes = slice_range piece (start + (n + 1)) end; left = left }) old new true
moves_line piece start end left n old new le within found e =
    let len = length-slice piece start end le within in
    let high = found.0.high in
    record {
      part = take n (slice_range piece start end);
      line = e;
      one_line = one_line_before (slice_range piece start end) n found.0.before;
      left = refl;
      answer =
          text_at (slice_range piece start end) n found.0.high found.1
          ∙ ap (λ ys. take n (slice_range piece start end) ++ 10 ∷ ys) (slice-drop piece start end n (omega arith));
    }

-- no line feed is in what is pending
pub moves_all : (piece : List ℕ) (start end left : ℕ) (old new : List ℕ)
    → IsFirstByte (is_byte 10) (slice_range piece start end) None → new ≡ old ++ slice_range piece start end
    → Moves (record { bytes = slice_range piece start end; left = left }) (record { bytes = slice_range piece end end; left = left }) old new false
moves_all piece start end left old new none e = record {
  part = slice_range piece start end;
  line = e;
  one_line = subst IsOneLine (take_all (length (slice_range piece start end)) (slice_range piece start end) (omega arith)) (one_line_before (slice_range piece start end) (length (slice_range piece start end)) none);
  left = refl;
  answer = (refl, slice-none piece end end (omega arith));
}

-- a line feed is found exactly if the bytes are not of one line
pub found_line : (xs : List ℕ) (place : Option ℕ) → IsFirstByte (is_byte 10) xs place → (is_some place ≡ true) ↔ (IsOneLine xs → ⊥)
found_line xs None none = (
  λ no. cc no,
  λ more. absurd (more (subst IsOneLine (take_all (length xs) xs (omega arith)) (one_line_before xs (length xs) none))),
)
found_line xs (Some n) found = (
  λ some. λ one. All-get_or (λ x. x ≢ 10) xs n 0 found.0.high one (eqb-true (get_or xs n 0) 10 found.1),
  λ more. refl,
)
