-- What a crash may leave after one call more.
use Rattle.std.proofs.Common.{◌≡◌, inl, inr, ⊎_elim, ℕ, ◌+◌, ◌≤◌, List, ◌∷◌, ◌++◌, length, ◌-◌, take, drop, refl, sym, ◌∙◌, ap, subst, arith, append_assoc, length-append, length-take, length-drop}
use Rattle.std.proofs.lemmas.List.{take_at, drop_at}
use Rattle.devices.specs.Device.{Shortened, Torn, LeavesChanged, LeavesNoMore}
use Rattle.devices.specs.Calls.{DeviceCall, synced, wrote, failed_to_write, cut_to, failed_to_cut, content_after, ReadOrChanged, CrashLeaves}
use Rattle.devices.specs.Laws.{what_is_read_is_left}

pub was_synced : (first : List ℕ) (calls later : List DeviceCall) → later ≡ synced ∷ calls → LeavesNoMore (CrashLeaves first calls) (CrashLeaves first later)
was_synced first calls later is c h = subst (λ (l : List ℕ). CrashLeaves first calls l) (sym (subst (λ (l : List DeviceCall). CrashLeaves first l c) is h)) (what_is_read_is_left first calls)

-- what is read after the call is what was read, changed
changed : (first : List ℕ) (calls : List DeviceCall) (read : List ℕ) (change : List ℕ → List ℕ → Type 0) → change (content_after first calls) read → LeavesChanged change (CrashLeaves first calls) (ReadOrChanged read (CrashLeaves first calls) change)
changed first calls read change is c h = ⊎_elim
    (λ (now : c ≡ read). (content_after first calls, what_is_read_is_left first calls, subst (λ (l : List ℕ). change (content_after first calls) l) (sym now) is))
    (λ (old : (d : List ℕ) × CrashLeaves first calls d × change d c). old)
    h

-- what was written is one way in which the write may tear
written_is_torn : (at : ℕ) (s bytes : List ℕ) → at ≤ length s → Torn at (length bytes) s (take at s ++ bytes ++ drop (at + length bytes) s)
written_is_torn at s bytes le =
    let front : length (take at s) ≡ at = omega (arith, length-take at s, le) in
    let back : length (take at s ++ bytes) ≡ at + length bytes = omega (arith, length-append (take at s) bytes, front) in
    let long : length (take at s ++ bytes ++ drop (at + length bytes) s) ≡ at + length bytes + (length s - (at + length bytes)) =
    omega (arith, length-append (take at s ++ bytes) (drop (at + length bytes) s), back, length-drop (at + length bytes) s) in
    record {
      before = ap (λ (l : List ℕ). take at l) (append_assoc (take at s) bytes (drop (at + length bytes) s)) ∙ take_at (take at s) (bytes ++ drop (at + length bytes) s) at front;
      after = drop_at (take at s ++ bytes) (drop (at + length bytes) s) (at + length bytes) back;
      no_shorter = omega (arith, long);
      no_longer = omega (arith, long);
    }

-- as is what was there
same_is_torn : (at n : ℕ) (s : List ℕ) → Torn at n s s
same_is_torn at n s = record { before = refl; after = refl; no_shorter = omega arith; no_longer = omega arith }

pub was_written : (first : List ℕ) (calls later : List DeviceCall) (at : ℕ) (bytes : List ℕ) → later ≡ wrote at bytes ∷ calls → at ≤ length (content_after first calls) → LeavesChanged (Torn at (length bytes)) (CrashLeaves first calls) (CrashLeaves first later)
was_written first calls later at bytes is le c h = changed first calls (content_after first (wrote at bytes ∷ calls)) (Torn at (length bytes)) (written_is_torn at (content_after first calls) bytes le) c (subst (λ (l : List DeviceCall). CrashLeaves first l c) is h)

pub was_not_written : (first : List ℕ) (calls later : List DeviceCall) (at n : ℕ) → later ≡ failed_to_write at n ∷ calls → LeavesChanged (Torn at n) (CrashLeaves first calls) (CrashLeaves first later)
was_not_written first calls later at n is c h = changed first calls (content_after first calls) (Torn at n) (same_is_torn at n (content_after first calls)) c (subst (λ (l : List DeviceCall). CrashLeaves first l c) is h)

-- the cut itself is one way to shorten
cut_is_shortened : (n : ℕ) (s : List ℕ) → n ≤ length s → Shortened n s (take n s)
cut_is_shortened n s le =
    let size : length (take n s) ≡ n = omega (arith, length-take n s, le) in
    inr (omega (arith, size), ap (λ k. take k s) size)

pub was_cut : (first : List ℕ) (calls later : List DeviceCall) (n : ℕ) → later ≡ cut_to n ∷ calls → n ≤ length (content_after first calls) → LeavesChanged (Shortened n) (CrashLeaves first calls) (CrashLeaves first later)
was_cut first calls later n is le c h = changed first calls (take n (content_after first calls)) (Shortened n) (cut_is_shortened n (content_after first calls) le) c (subst (λ (l : List DeviceCall). CrashLeaves first l c) is h)

pub was_not_cut : (first : List ℕ) (calls later : List DeviceCall) (n : ℕ) → later ≡ failed_to_cut n ∷ calls → LeavesChanged (Shortened n) (CrashLeaves first calls) (CrashLeaves first later)
was_not_cut first calls later n is c h = changed first calls (content_after first calls) (Shortened n) (inl refl) c (subst (λ (l : List DeviceCall). CrashLeaves first l c) is h)
