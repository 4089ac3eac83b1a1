-- A device that notes its calls keeps the laws of a device.
use Rattle.std.specs.Prelude.{ℕ, ◌≤◌, List, [], ◌∷◌, length}
use mathlib.Core.Logic.{inl}
use Rattle.std.proofs.Common.{refl, ⊎_elim, arith}
use Rattle.devices.specs.Calls.{DeviceCall, wrote, failed_to_write, cut_to, failed_to_cut, synced, content_after, CrashLeaves, CrashLeftSince}

pub now_counts : (first : List ℕ) (calls : List DeviceCall) (t : ℕ) (c : List ℕ)
    → t ≤ length calls → CrashLeaves first calls c → CrashLeftSince first calls t c
now_counts first [] t c le now = (le, now)
now_counts first (call ∷ calls) t c le now = inl (omega (arith, le), now)

-- nothing was left since a moment that hasn't come
not_later : (first : List ℕ) (calls : List DeviceCall) (t : ℕ) (c : List ℕ)
    → CrashLeftSince first calls t c → t ≤ length calls
not_later first [] t c left = left.0
not_later first (call ∷ calls) t c left =
    ⊎_elim (λ now. omega (arith, now.0))
    (λ past. omega (arith, not_later first calls t c past)) left

pub now_is_all : (first : List ℕ) (calls : List DeviceCall) (c : List ℕ)
    → CrashLeftSince first calls (length calls) c → CrashLeaves first calls c
now_is_all first [] c left = left.1
now_is_all first (call ∷ calls) c left =
    ⊎_elim (λ now. now.1)
    (λ past. absurd (omega (arith, not_later first calls (length (call ∷ calls)) c past))) left

pub what_is_read_is_left : (first : List ℕ) (calls : List DeviceCall)
    → CrashLeaves first calls (content_after first calls)
what_is_read_is_left first [] = refl
what_is_read_is_left first (wrote at bytes ∷ calls) = inl refl
what_is_read_is_left first (failed_to_write at n ∷ calls) = inl refl
what_is_read_is_left first (cut_to n ∷ calls) = inl refl
what_is_read_is_left first (failed_to_cut n ∷ calls) = inl refl
what_is_read_is_left first (synced ∷ calls) = refl
