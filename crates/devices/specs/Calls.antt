-- A device that notes its calls: what it holds after them, and what a crash may leave. The newest
-- call stands first.
use Rattle.std.specs.Prelude.{◌≡◌, ◌⊎◌, ℕ, ◌+◌, ◌≤◌, List, [], ◌∷◌, ◌++◌, length, take, drop}
use Rattle.devices.specs.Device.{Shortened, Torn}

-- a call that changed something, or may have changed something since it failed
pub data DeviceCall : Type 0 where
  wrote : ℕ → List ℕ → DeviceCall
  -- at this offset, of this number of bytes
  failed_to_write : ℕ → ℕ → DeviceCall
  cut_to : ℕ → DeviceCall
  failed_to_cut : ℕ → DeviceCall
  synced : DeviceCall

-- what a read gives after the calls
abbrev pub content_after : List ℕ → List DeviceCall → List ℕ
content_after first [] = first
content_after first (wrote at bytes ∷ calls) =
    take at (content_after first calls) ++ bytes
    ++ drop (at + length bytes) (content_after first calls)
content_after first (failed_to_write at n ∷ calls) = content_after first calls
content_after first (cut_to n ∷ calls) = take n (content_after first calls)
content_after first (failed_to_cut n ∷ calls) = content_after first calls
content_after first (synced ∷ calls) = content_after first calls

-- what a crash may leave if `read` is read and it might have left `old` before: what is read, or
-- one of the old contents, changed
abbrev pub ReadOrChanged : List ℕ → (List ℕ → Type 0) → (List ℕ → List ℕ → Type 0) → List ℕ → Type 0
ReadOrChanged read old change c = (c ≡ read) ⊎ ((d : List ℕ) × old d × change d c)

-- a crash after the calls may leave this
abbrev pub CrashLeaves : List ℕ → List DeviceCall → List ℕ → Type 0
CrashLeaves first [] c = c ≡ first
CrashLeaves first (wrote at bytes ∷ calls) c =
    ReadOrChanged (content_after first (wrote at bytes ∷ calls)) (CrashLeaves first calls)
    (Torn at (length bytes)) c
CrashLeaves first (failed_to_write at n ∷ calls) c =
    ReadOrChanged (content_after first calls) (CrashLeaves first calls) (Torn at n) c
CrashLeaves first (cut_to n ∷ calls) c =
    ReadOrChanged (take n (content_after first calls)) (CrashLeaves first calls) (Shortened n) c
CrashLeaves first (failed_to_cut n ∷ calls) c =
    ReadOrChanged (content_after first calls) (CrashLeaves first calls) (Shortened n) c
CrashLeaves first (synced ∷ calls) c = c ≡ content_after first calls

-- a crash at some moment after the first t calls or more may have left this
abbrev pub CrashLeftSince : List ℕ → List DeviceCall → ℕ → List ℕ → Type 0
CrashLeftSince first [] t c = (t ≤ 0) × CrashLeaves first [] c
CrashLeftSince first (call ∷ calls) t c =
    ((t ≤ length calls + 1) × CrashLeaves first (call ∷ calls) c) ⊎ CrashLeftSince first calls t c
