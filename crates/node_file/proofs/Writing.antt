-- A write and a sync, as one run.
use Rattle.std.proofs.Common.{ℕ, List, refl, sym, subst, arith}
use Rattle.devices.specs.Device.{IsDurable, LeavesChanged, Torn, LeavesOnly, TimePasses}
use Rattle.devices.proofs.Moments.{started, goes_on}

untouched : (at n : ℕ) (s : List ℕ) → Torn at n s s
untouched at n s = record { before = refl; after = refl; no_shorter = omega arith; no_longer = omega arith }

torn_from : (at n : ℕ) (s : List ℕ) (old new : List ℕ → Type 0) → IsDurable s old → LeavesChanged (Torn at n) old new → (c : List ℕ) → new c → Torn at n s c
torn_from at n s old new only follows c left = let from = follows c left in subst (λ (d : List ℕ). Torn at n d c) (only from.0 from.1) from.2

module _ {D : Type 0} (moment : D → ℕ) (left_since : D → ℕ → List ℕ → Type 0) (seen : D → List ℕ) (may_leave : D → List ℕ → Type 0) (only_now : (file : D) (c : List ℕ) → left_since file (moment file) c → may_leave file c) where
  pub wrote : (at n : ℕ) (old new : D) → IsDurable (seen old) (may_leave old) → LeavesChanged (Torn at n) (may_leave old) (may_leave new)
      → TimePasses (moment old) (moment new) (left_since old) (left_since new) (may_leave new) → LeavesOnly moment left_since old new (Torn at n (seen old))
  wrote at n old new only follows time =
      goes_on moment left_since old old new (Torn at n (seen old)) (may_leave new)
      (started moment left_since old (Torn at n (seen old)) (λ c left. subst (λ (d : List ℕ). Torn at n (seen old) d) (sym (only c (only_now old c left))) (untouched at n (seen old))))
      time
      (torn_from at n (seen old) (may_leave old) (may_leave new) only follows)

  pub wrote_and_synced : (at n : ℕ) (old mid new : D) → IsDurable (seen old) (may_leave old) → LeavesChanged (Torn at n) (may_leave old) (may_leave mid)
      → TimePasses (moment old) (moment mid) (left_since old) (left_since mid) (may_leave mid) → ((c : List ℕ) → may_leave new c → may_leave mid c)
      → TimePasses (moment mid) (moment new) (left_since mid) (left_since new) (may_leave new) → LeavesOnly moment left_since old new (Torn at n (seen old))
  wrote_and_synced at n old mid new only follows time kept later =
      goes_on moment left_since old mid new (Torn at n (seen old)) (may_leave new) (wrote at n old mid only follows time) later (λ c left. torn_from at n (seen old) (may_leave old) (may_leave mid) only follows c (kept c left))
