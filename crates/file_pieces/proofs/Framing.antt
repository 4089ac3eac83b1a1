-- Bytes that begin with a gate, and whether a record is read from them.
use Rattle.std.proofs.Common.{◌≡◌, get_or, ℕ, zero, suc, ◌+◌, ◌<◌, ◌≤◌, List, [], ◌∷◌, ◌++◌, length, take, drop, Option, Some, None, Bool, true, false, cond, nat_lt, refl, sym, ◌∙◌, ap, subst, arith, length-append}
use Rattle.std.specs.Int.{w32, from_be_bytes}
use Rattle.std.proofs.lemmas.Bool.Decides.{nat_tests}
use Rattle.std.proofs.lemmas.List.{length-take-le, take-take, take-append-le}
use Rattle.node_file.specs.declared.record.Record.{Record}
use Rattle.node_file.specs.Gates.{length_said}
use Rattle.node_file.specs.Record.{record_in, record_of_length, whole_record, with_size}
use Rattle.file_pieces.specs.Framing.{IsFramed}

-- a front of bytes that is as long as a record says
pub framed_front : (bytes : List ℕ) (n : ℕ) → get_or bytes 0 0 ≡ 1 → n ≡ 37 + length_said (drop 1 bytes) → n ≤ length bytes → length_said (drop 1 bytes) ≤ 16777216 → IsFramed (take n bytes)
framed_front [] n gate size le fits = absurd (omega (arith, size, le))
framed_front (g ∷ b) zero gate size le fits = absurd (omega (arith, size))
framed_front (g ∷ b) (suc m) gate size le fits =
    let same : length_said (take m b) ≡ length_said b = ap (from_be_bytes w32) (take-take 4 m b (omega (arith, size))) in
    record {
      gate = gate;
      size = omega (arith, same, size, length-take-le m b (omega (arith, le)));
      fits = subst (λ (k : ℕ). k ≤ 16777216) (sym same) fits;
    }

-- ---- tests

pub at_least : (a b : ℕ) → nat_lt a b ≡ false → b ≤ a
at_least a b e = grind (arith, nat_tests)

pub not_below : (a b : ℕ) → b ≤ a → nat_lt a b ≡ false
not_below a b le = grind (arith, nat_tests)

pub below : (a b : ℕ) → a < b → nat_lt a b ≡ true
below a b lt = grind (arith, nat_tests)

none_if : {A : Type 0} (t : Bool) (r : Option A) → (t ≡ false → r ≡ None) → cond t None r ≡ None
none_if true r n = refl
none_if false r n = n refl

test_some : {A : Type 0} (b : Bool) (r : Option A) (y : A) → cond b r None ≡ Some y → r ≡ Some y
test_some true r y e = e
test_some false r y e = absurd cc

some_is : {A : Type 0} (x y : A) → Some x ≡ Some y → x ≡ y
some_is x y e = cc

-- ---- the record behind a gate

-- not all of it is there
pub none_of_short : (version : ℕ) (b : List ℕ) → (4 ≤ length b → length b < 36 + length_said b) → record_in version b ≡ None
unfolding record_in record_of_length
none_of_short version b short =
    none_if (nat_lt (length b) 4) _ (λ long.
    none_if (nat_lt 16777216 (length_said b)) _ (λ fits.
    none_if (nat_lt (length b) (36 + length_said b)) _ (λ whole.
    absurd (omega (arith, short (at_least (length b) 4 long), at_least (length b) (36 + length_said b) whole)))))

-- none is so long
pub none_of_long : (version : ℕ) (b : List ℕ) → 16777216 < length_said b → record_in version b ≡ None
unfolding record_in record_of_length
none_of_long version b long =
    none_if (nat_lt (length b) 4) _ (λ some.
    none_if (nat_lt 16777216 (length_said b)) _ (λ fits. absurd (omega (arith, long, at_least 16777216 (length_said b) fits))))

-- what stands behind its length doesn't change that
pub said_more : (b x : List ℕ) → 4 ≤ length b → length_said (b ++ x) ≡ length_said b
said_more b x le = ap (from_be_bytes w32) (take-append-le 4 b x le)

reads_whole : (version : ℕ) (bytes : List ℕ) (m : ℕ) → 36 + m ≤ length bytes → m ≤ 16777216 → length_said bytes ≡ m → record_in version bytes ≡ whole_record version m (take (36 + m) bytes)
unfolding record_in record_of_length
reads_whole version bytes m le fits is = rw (not_below (length bytes) 4 (omega (arith, le)), is, not_below 16777216 m fits, not_below (length bytes) (36 + m) le) refl

-- what stands behind all of it counts for nothing
pub same_behind : (version : ℕ) (b x : List ℕ) → length b ≡ 36 + length_said b → length_said b ≤ 16777216 → record_in version (b ++ x) ≡ record_in version b
same_behind version b x size fits =
    let m = length_said b in
    reads_whole version (b ++ x) m (omega (arith, size, length-append b x)) fits (said_more b x (omega (arith, size)))
    ∙ ap (whole_record version m) (take-append-le (36 + m) b x (omega (arith, size)))
    ∙ sym (reads_whole version b m (omega (arith, size)) fits refl)

sized_some : (n : ℕ) (r : Option Record) (record_ : Record) (m : ℕ) → with_size n r ≡ Some (record_, m) → m ≡ n
sized_some n None record_ m e = absurd cc
sized_some n (Some q) record_ m e = ap (λ (x : Record × ℕ). x.1) (sym (some_is (q, n) (record_, m) e))

size_of : (version m : ℕ) (whole : List ℕ) (record_ : Record) (n : ℕ) → whole_record version m whole ≡ Some (record_, n) → n ≡ 36 + m
unfolding whole_record
size_of version m whole record_ n e = sized_some (36 + m) _ record_ n (test_some _ _ (record_, n) e)

-- it takes all these bytes
pub whole_size : (version : ℕ) (b : List ℕ) (said : Record) (n : ℕ) → length b ≡ 36 + length_said b → length_said b ≤ 16777216 → record_in version b ≡ Some (said, n) → n ≡ length b
whole_size version b said n size fits is =
    size_of version (length_said b) (take (36 + length_said b) b) said n (sym (reads_whole version b (length_said b) (omega (arith, size)) fits refl) ∙ is) ∙ sym size
