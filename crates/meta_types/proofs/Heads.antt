-- Byte strings compare as their heads; at equal heads as their lengths, or as what is past them.
use Rattle.std.proofs.Common.{ℕ, zero, suc, ◌≡◌, ◌+◌, ◌*◌, ◌<◌, List, [], ◌∷◌, refl, sym, ap, subst, ◌∙◌, length, drop, ◌≤◌, ◌⊎◌, inl, inr, arith}
use Rattle.std.specs.declared.cmp.Ordering.{Ordering}
use Rattle.std.specs.declared.cmp.Ordering.TheVariants.{Less, Equal, Greater}
use Rattle.std.specs.Ordering.{nat_cmp, ordering_reverse, ordering_then, MatchOrdering}
use Rattle.std.specs.Cmp.Lexicographic.{nat_list_cmp_total}
use Rattle.std.specs.Cmp.{nat_cmp_is, ranked}
use Rattle.meta_types.specs.Head.{IsHeadOf, byte_at, head_of}
use Rattle.meta_types.specs.Order.{bytes_cmp}

-- each is a byte
abbrev AreBytes : List ℕ → Type 0
AreBytes bytes = (at : ℕ) → byte_at bytes at < 256

-- what these digits and then `n` bytes spell in base 256; zeros stand past the end
spelled : ℕ → ℕ → List ℕ → ℕ
spelled zero digits bytes = digits
spelled (suc n) digits [] = spelled n (digits * 256) []
spelled (suc n) digits (byte ∷ bytes) = spelled n (digits * 256 + byte) bytes

-- greater digits in front decide
rises : (n a b : ℕ) (xs ys : List ℕ) → AreBytes xs → a < b → spelled n a xs < spelled n b ys
unfolding spelled
rises zero a b xs ys are h = h
rises (suc n) a b [] [] are h = rises n (a * 256) (b * 256) [] [] are (omega arith)
rises (suc n) a b [] (y ∷ ys) are h = rises n (a * 256) (b * 256 + y) [] ys are (omega arith)
rises (suc n) a b (x ∷ xs) [] are h =
    let small : x < 256 = are 0 in
    rises n (a * 256 + x) (b * 256) xs [] (λ k. are (suc k)) (omega arith)
rises (suc n) a b (x ∷ xs) (y ∷ ys) are h =
    let small : x < 256 = are 0 in
    rises n (a * 256 + x) (b * 256 + y) xs ys (λ k. are (suc k)) (omega arith)

-- zeros stand past the end
fills : (n a : ℕ) (xs : List ℕ) → AreBytes xs → spelled n a xs < spelled n a [] → ⊥
unfolding spelled
fills zero a xs are h = omega arith
fills (suc n) a [] are h = fills n (a * 256) [] are h
fills (suc n) a (zero ∷ xs) are h =
    fills n (a * 256) xs (λ k. are (suc k)) (subst (λ d. spelled n d xs < spelled n (a * 256) []) (omega arith) h)
fills (suc n) a (suc x ∷ xs) are h =
    let more = rises n (a * 256) (a * 256 + suc x) [] xs (λ k. omega arith) (omega arith) in
    omega (arith, more, h)

less_step : (n a x y : ℕ) (xs ys : List ℕ) (o : Ordering) → MatchOrdering o (x < y) (x ≡ y) (y < x)
    → AreBytes (y ∷ ys) → (spelled n (a * 256 + y) xs < spelled n (a * 256 + y) ys → bytes_cmp xs ys ≡ Less)
    → spelled n (a * 256 + x) xs < spelled n (a * 256 + y) ys → ordering_then o (bytes_cmp xs ys) ≡ Less
less_step n a x y xs ys Less less are rest h = refl
less_step n a x y xs ys Equal same are rest h =
    rest (subst (λ d. spelled n (a * 256 + d) xs < spelled n (a * 256 + y) ys) same h)
less_step n a x y xs ys Greater more are rest h =
    let above : y < x = more in
    let greater = rises n (a * 256 + y) (a * 256 + x) ys xs (λ k. are (suc k)) (omega arith) in
    absurd (omega (arith, greater, h))

less_if : (n a : ℕ) (xs ys : List ℕ) → AreBytes xs → AreBytes ys → spelled n a xs < spelled n a ys → bytes_cmp xs ys ≡ Less
unfolding spelled
less_if zero a xs ys p q h = absurd (omega arith)
less_if (suc n) a [] [] p q h = less_if n (a * 256) [] [] p q h
less_if (suc n) a [] (y ∷ ys) p q h = refl
less_if (suc n) a (x ∷ xs) [] p q h = absurd (fills (suc n) a (x ∷ xs) p h)
less_if (suc n) a (x ∷ xs) (y ∷ ys) p q h =
    less_step n a x y xs ys (nat_cmp x y) (ranked x y (nat_cmp x y) refl) q (less_if n (a * 256 + y) xs ys (λ k. p (suc k)) (λ k. q (suc k))) h

head_is : (xs : List ℕ) → head_of xs ≡ spelled 8 0 xs
unfolding head_of spelled
head_is [] = refl
head_is (a ∷ []) = omega arith
head_is (a ∷ b ∷ []) = omega arith
head_is (a ∷ b ∷ c ∷ []) = omega arith
head_is (a ∷ b ∷ c ∷ d ∷ []) = omega arith
head_is (a ∷ b ∷ c ∷ d ∷ e ∷ []) = omega arith
head_is (a ∷ b ∷ c ∷ d ∷ e ∷ f ∷ []) = omega arith
head_is (a ∷ b ∷ c ∷ d ∷ e ∷ f ∷ g ∷ []) = omega arith
head_is (a ∷ b ∷ c ∷ d ∷ e ∷ f ∷ g ∷ h ∷ xs) = omega arith

-- if what both spell is the same, first bytes that are equal decide nothing
same_step : (n a x y : ℕ) (xs ys : List ℕ) (r o : Ordering) → MatchOrdering o (x < y) (x ≡ y) (y < x)
    → AreBytes xs → AreBytes ys → (spelled n (a * 256 + y) xs ≡ spelled n (a * 256 + y) ys → bytes_cmp xs ys ≡ r)
    → spelled n (a * 256 + x) xs ≡ spelled n (a * 256 + y) ys → ordering_then o (bytes_cmp xs ys) ≡ r
same_step n a x y xs ys r Less less p q rest h =
    let below : x < y = less in
    absurd (omega (arith, rises n (a * 256 + x) (a * 256 + y) xs ys p (omega arith), h))
same_step n a x y xs ys r Equal same p q rest h =
    rest (subst (λ d. spelled n (a * 256 + d) xs ≡ spelled n (a * 256 + y) ys) same h)
same_step n a x y xs ys r Greater more p q rest h =
    let above : y < x = more in
    absurd (omega (arith, rises n (a * 256 + y) (a * 256 + x) ys xs q (omega arith), h))

after : (a b : ℕ) (o : Ordering) → MatchOrdering o (a < b) (a ≡ b) (b < a) → MatchOrdering o (suc a < suc b) (suc a ≡ suc b) (suc b < suc a)
after a b Less less = let h : a < b = less in omega arith
after a b Equal same = ap suc same
after a b Greater more = let h : b < a = more in omega arith

rank_after : (a b : ℕ) → nat_cmp a b ≡ nat_cmp (suc a) (suc b)
rank_after a b = nat_cmp_is (suc a) (suc b) (nat_cmp a b) (after a b (nat_cmp a b) (ranked a b (nat_cmp a b) refl))

-- if so many bytes spell the same, and one string has no others, the lengths decide
by_lengths : (n a : ℕ) (xs ys : List ℕ) → AreBytes xs → AreBytes ys → (length xs ≤ n) ⊎ (length ys ≤ n) → spelled n a xs ≡ spelled n a ys → bytes_cmp xs ys ≡ nat_cmp (length xs) (length ys)
unfolding spelled
by_lengths n a [] [] p q k h = refl
by_lengths n a [] (y ∷ ys) p q k h = nat_cmp_is 0 (suc (length ys)) Less (omega arith)
by_lengths n a (x ∷ xs) [] p q k h = nat_cmp_is (suc (length xs)) 0 Greater (omega arith)
by_lengths zero a (x ∷ xs) (y ∷ ys) p q (inl k) h = absurd (omega arith)
by_lengths zero a (x ∷ xs) (y ∷ ys) p q (inr k) h = absurd (omega arith)
by_lengths (suc n) a (x ∷ xs) (y ∷ ys) p q k h =
    let rest : (length xs ≤ n) ⊎ (length ys ≤ n) = elim k [ inl l ↦ inl (omega arith) | inr l ↦ inr (omega arith) ] in
    same_step n a x y xs ys (nat_cmp (length xs) (length ys)) (nat_cmp x y) (ranked x y (nat_cmp x y) refl) (λ at. p (suc at)) (λ at. q (suc at))
    (by_lengths n (a * 256 + y) xs ys (λ at. p (suc at)) (λ at. q (suc at)) rest) h
    ∙ rank_after (length xs) (length ys)

-- if so many bytes spell the same, and both strings have as many, those after them decide
by_rest : (n a : ℕ) (xs ys : List ℕ) → AreBytes xs → AreBytes ys → n ≤ length xs → n ≤ length ys → spelled n a xs ≡ spelled n a ys → bytes_cmp xs ys ≡ bytes_cmp (drop n xs) (drop n ys)
unfolding spelled
by_rest zero a xs ys p q k l h = refl
by_rest (suc n) a [] ys p q k l h = absurd (omega arith)
by_rest (suc n) a (x ∷ xs) [] p q k l h = absurd (omega arith)
by_rest (suc n) a (x ∷ xs) (y ∷ ys) p q k l h =
    same_step n a x y xs ys (bytes_cmp (drop n xs) (drop n ys)) (nat_cmp x y) (ranked x y (nat_cmp x y) refl) (λ at. p (suc at)) (λ at. q (suc at))
    (by_rest n (a * 256 + y) xs ys (λ at. p (suc at)) (λ at. q (suc at)) (omega arith) (omega arith)) h

module _ (xs ys : List ℕ) (head other : ℕ) (p : IsHeadOf head xs) (q : IsHeadOf other ys) (same : head ≡ other) where
  spelled_same : spelled 8 0 xs ≡ spelled 8 0 ys
  spelled_same = sym (head_is xs) ∙ sym p.value ∙ same ∙ q.value ∙ head_is ys

  -- if one of the byte strings has at most eight bytes, they compare as their lengths
  pub by_short : (length xs ≤ 8) ⊎ (length ys ≤ 8) → bytes_cmp xs ys ≡ nat_cmp (length xs) (length ys)
  by_short k = by_lengths 8 0 xs ys p.in_range q.in_range k spelled_same

  -- if both have more, they compare as what is past their heads
  pub by_long : 8 < length xs → 8 < length ys → bytes_cmp xs ys ≡ bytes_cmp (drop 8 xs) (drop 8 ys)
  by_long k l = by_rest 8 0 xs ys p.in_range q.in_range (omega arith) (omega arith) spelled_same

module _ (xs ys : List ℕ) (head other : ℕ) (p : IsHeadOf head xs) (q : IsHeadOf other ys) (differ : head ≡ other → ⊥) where
  by_rank : (o : Ordering) → MatchOrdering o (head < other) (head ≡ other) (other < head) → bytes_cmp xs ys ≡ o
  by_rank Less less =
      less_if 8 0 xs ys p.in_range q.in_range (rw (← head_is xs, ← head_is ys, ← p.value, ← q.value) less)
  by_rank Equal same = absurd (differ same)
  by_rank Greater more =
      nat_list_cmp_total.antisymm xs ys
      ∙ ap ordering_reverse (less_if 8 0 ys xs q.in_range p.in_range (rw (← head_is xs, ← head_is ys, ← p.value, ← q.value) more))

  pub by_heads : (o : Ordering) → o ≡ nat_cmp head other → o ≡ bytes_cmp xs ys
  by_heads o is = sym (by_rank o (ranked head other o is))
