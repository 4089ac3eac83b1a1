-- What the calls of a device do to its content, and what a crash may leave of it.
use Rattle.std.specs.Prelude.{◌<◌, ◌≡◌, ◌⊎◌, ℕ, ◌+◌, ◌≤◌, max, List, ◌++◌, length, take, drop, Result, IsErrOf}
use Rattle.devices.specs.declared.device.DeviceFault.{DeviceFault}
use Rattle.devices.specs.declared.device.DeviceFault.TheVariants.{Failed}

-- ---- one call

-- the new content is the old one with these bytes from this offset on
abbrev pub Overwrites : List ℕ → ℕ → List ℕ → List ℕ → Type 0
Overwrites old at bytes new = new ≡ take at old ++ bytes ++ drop (at + length bytes) old

-- what may be left of a write of n bytes that isn't synced: any bytes in its range and past the old
-- end, the same bytes everywhere else
pub record Torn (at n : ℕ) (old new : List ℕ) : Type 0 where
  pub before : take at new ≡ take at old
  pub after : drop (at + n) new ≡ drop (at + n) old
  pub no_shorter : length old ≤ length new
  pub no_longer : length new ≤ max (length old) (at + n)

-- what may be left of a cut to n bytes that isn't synced: what was there, or some front of it that
-- has n bytes or more
abbrev pub Shortened : ℕ → List ℕ → List ℕ → Type 0
Shortened n old new = (new ≡ old) ⊎ ((n ≤ length new) × (take (length new) old ≡ new))

-- ---- what a crash leaves: any one of some contents

-- a crash leaves this content and no other
abbrev pub IsDurable : List ℕ → (List ℕ → Type 0) → Type 0
IsDurable content may_leave = (c : List ℕ) → may_leave c → c ≡ content

-- what a crash may leave afterwards is what it might have left before, after this change
abbrev pub LeavesChanged :
    (List ℕ → List ℕ → Type 0) → (List ℕ → Type 0) → (List ℕ → Type 0) → Type 0
LeavesChanged change old new = (c : List ℕ) → new c → (d : List ℕ) × old d × change d c

-- it may leave nothing that it might not have left before
abbrev pub LeavesNoMore : (List ℕ → Type 0) → (List ℕ → Type 0) → Type 0
LeavesNoMore old new = (c : List ℕ) → new c → old c

-- ---- moments

-- From one moment to a later one: what a crash since some moment might have left is what it might
-- have left up to the earlier one, or what it may leave now.
pub record TimePasses (before now : ℕ) (past since : ℕ → List ℕ → Type 0)
    (may_leave : List ℕ → Type 0)
    : Type 0 where
  pub later : before ≤ now
  pub nothing_else : (t : ℕ) (c : List ℕ) → t ≤ before → since t c → past t c ⊎ may_leave c
  pub keeps : (t : ℕ) (c : List ℕ) → t ≤ before → past t c → since t c

-- time passes in this way from the old device to the new one, which a call left
abbrev pub Elapses : {D : Type 0} → (D → ℕ) → (D → ℕ → List ℕ → Type 0) → (D → List ℕ → Type 0)
    → D → D → Type 0
Elapses moment left_since may_leave old new =
    TimePasses (moment old) (moment new) (left_since old) (left_since new) (may_leave new)

-- A crash at any moment from the old device to the new one leaves a content for which this holds.
pub record LeavesOnly {D : Type 0} (moment : D → ℕ) (left_since : D → ℕ → List ℕ → Type 0)
    (old new : D)
    (holds : List ℕ → Type 0) : Type 0 where
  pub later : moment old ≤ moment new
  pub each : (c : List ℕ) → left_since new (moment old) c → holds c
  -- what it left since an earlier moment, it had left before the old device, or this holds of it
  pub before : (t : ℕ) (c : List ℕ) → t ≤ moment old → left_since new t c
      → left_since old t c ⊎ holds c

-- ---- how a call fails, by the count of failures before and after it

-- the count of failures has risen, or stood at its greatest value
abbrev pub HasFailed : ℕ → ℕ → Type 0
HasFailed before now = (before ≤ now) × ((before < now) ⊎ (before ≡ 18446744073709551615))

-- the count rises by one if `Failed` is returned, unless it stands at its greatest value; it never
-- rises otherwise
pub record CountsFailure {T : Type 0} (before now : ℕ) (result : Result T DeviceFault)
    : Type 0 where
  pub later : before ≤ now
  pub by_one : now ≤ before + 1
  pub failed : IsErrOf result Failed → (before < now) ⊎ (before ≡ 18446744073709551615)
  pub still : (IsErrOf result Failed → ⊥) → now ≡ before
