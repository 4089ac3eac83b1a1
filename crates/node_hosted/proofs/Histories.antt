-- Histories of a device: one that was cut short by a failure, one that goes on after a sync, and one that begins with writes that
-- failed.
use Rattle.std.proofs.Common.{◌≡◌, ◌≤◌, ◌⊎◌, ℕ, zero, suc, ◌+◌, List, [], ◌∷◌, ◌++◌, length, take, drop, Option, Some, None, inl, inr, refl, sym, ap, subst, ◌∙◌, arith}
use Rattle.devices.specs.Calls.{CrashLeaves, CrashLeftSince, DeviceCall, content_after, cut_to, failed_to_cut, failed_to_write, synced, wrote}
use Rattle.devices.specs.Device.{Torn}
use Rattle.node_hosted.specs.HostFile.{calls_to_store, failed_writes}
use Rattle.node_hosted.specs.Lasting.{FailsMidway, as_failed}

-- ---- cut short

-- a crash may leave what is read
pub read_left : (first : List ℕ) (calls : List DeviceCall) → CrashLeaves first calls (content_after first calls)
read_left first [] = refl
read_left first (wrote at bytes ∷ calls) = inl refl
read_left first (failed_to_write at n ∷ calls) = inl refl
read_left first (cut_to n ∷ calls) = inl refl
read_left first (failed_to_cut n ∷ calls) = inl refl
read_left first (synced ∷ calls) = refl

at_first : (n : ℕ) → 0 ≤ n + 1
at_first n = omega arith

pub read_left_since : (first : List ℕ) (calls : List DeviceCall) (c : List ℕ) → c ≡ content_after first calls → CrashLeftSince first calls 0 c
read_left_since first [] c is = (omega arith, is)
read_left_since first (call ∷ calls) c is =
    inl (at_first (length calls), subst (CrashLeaves first (call ∷ calls)) (sym is) (read_left first (call ∷ calls)))

failed_left : (first c : List ℕ) (call : DeviceCall) (calls : List DeviceCall) → CrashLeftSince first (as_failed call calls) 0 c
    → CrashLeftSince first (call ∷ calls) 0 c
failed_left first c (wrote at bytes) calls (inl (from, inl is)) = inr (read_left_since first calls c is)
failed_left first c (wrote at bytes) calls (inl (from, inr torn)) = inl (at_first (length calls), inr torn)
failed_left first c (wrote at bytes) calls (inr before) = inr before
failed_left first c (cut_to n) calls (inl (from, inl is)) = inr (read_left_since first calls c is)
failed_left first c (cut_to n) calls (inl (from, inr short)) = inl (at_first (length calls), inr short)
failed_left first c (cut_to n) calls (inr before) = inr before
failed_left first c (failed_to_write at n) calls left = inr left
failed_left first c (failed_to_cut n) calls left = inr left
failed_left first c synced calls left = inr left

-- what a crash may leave after a call failed, a crash in the midst of the calls may leave too
pub failed_midway : (first c : List ℕ) (calls made : List DeviceCall) → FailsMidway calls made → CrashLeftSince first made 0 c
    → CrashLeftSince first calls 0 c
failed_midway first c [] made fails left = absurd fails
failed_midway first c (call ∷ calls) made (inl is) left =
    failed_left first c call calls (subst (λ (them : List DeviceCall). CrashLeftSince first them 0 c) is left)
failed_midway first c (call ∷ calls) made (inr earlier) left = inr (failed_midway first c calls made earlier left)

-- ---- going on after a sync

content_joined : (first : List ℕ) (later calls : List DeviceCall)
    → content_after first (later ++ calls) ≡ content_after (content_after first calls) later
content_joined first [] calls = refl
content_joined first (wrote at bytes ∷ later) calls =
    ap (λ (read : List ℕ). take at read ++ bytes ++ drop (at + length bytes) read) (content_joined first later calls)
content_joined first (failed_to_write at n ∷ later) calls = content_joined first later calls
content_joined first (cut_to n ∷ later) calls = ap (take n) (content_joined first later calls)
content_joined first (failed_to_cut n ∷ later) calls = content_joined first later calls
content_joined first (synced ∷ later) calls = content_joined first later calls

-- a crash after these calls leaves what is read
abbrev pub IsSynced : List ℕ → List DeviceCall → Type 0
IsSynced first calls = (c : List ℕ) → CrashLeaves first calls c → c ≡ content_after first calls

leaves_joined : (first c : List ℕ) (later calls : List DeviceCall) → IsSynced first calls → CrashLeaves first (later ++ calls) c
    → CrashLeaves (content_after first calls) later c
leaves_joined first c [] calls safe left = safe c left
leaves_joined first c (wrote at bytes ∷ later) calls safe (inl is) = inl (is ∙ content_joined first (wrote at bytes ∷ later) calls)
leaves_joined first c (wrote at bytes ∷ later) calls safe (inr (d, old, torn)) = inr (d, leaves_joined first d later calls safe old, torn)
leaves_joined first c (failed_to_write at n ∷ later) calls safe (inl is) = inl (is ∙ content_joined first later calls)
leaves_joined first c (failed_to_write at n ∷ later) calls safe (inr (d, old, torn)) = inr (d, leaves_joined first d later calls safe old, torn)
leaves_joined first c (cut_to n ∷ later) calls safe (inl is) = inl (is ∙ content_joined first (cut_to n ∷ later) calls)
leaves_joined first c (cut_to n ∷ later) calls safe (inr (d, old, short)) = inr (d, leaves_joined first d later calls safe old, short)
leaves_joined first c (failed_to_cut n ∷ later) calls safe (inl is) = inl (is ∙ content_joined first later calls)
leaves_joined first c (failed_to_cut n ∷ later) calls safe (inr (d, old, short)) = inr (d, leaves_joined first d later calls safe old, short)
leaves_joined first c (synced ∷ later) calls safe is = is ∙ content_joined first later calls

-- there were as many calls
made_by_then : (first c : List ℕ) (calls : List DeviceCall) (t : ℕ) → CrashLeftSince first calls t c → t ≤ length calls
made_by_then first c [] t (from, is) = from
made_by_then first c (call ∷ calls) t (inl (from, left)) = omega (arith, from)
made_by_then first c (call ∷ calls) t (inr before) = let by = made_by_then first c calls t before in omega (arith, by)

left_at_the_end : (first c : List ℕ) (calls : List DeviceCall) → CrashLeftSince first calls (length calls) c → CrashLeaves first calls c
left_at_the_end first c [] (from, is) = is
left_at_the_end first c (call ∷ calls) (inl (from, left)) = left
left_at_the_end first c (call ∷ calls) (inr before) = let by = made_by_then first c calls (length (call ∷ calls)) before in absurd (omega (arith, by))

since_joined : (first c : List ℕ) (later calls : List DeviceCall) → IsSynced first calls
    → CrashLeftSince first (later ++ calls) (length calls) c → CrashLeftSince (content_after first calls) later 0 c
since_joined first c [] calls safe left = (omega arith, safe c (left_at_the_end first c calls left))
since_joined first c (call ∷ later) calls safe (inl (from, left)) = inl (at_first (length later), leaves_joined first c (call ∷ later) calls safe left)
since_joined first c (call ∷ later) calls safe (inr before) = inr (since_joined first c later calls safe before)

stored_is_synced : (failures : ℕ) (first : List ℕ) (gate : Option ℕ) (bytes : Option (List ℕ))
    → IsSynced first (calls_to_store gate bytes ++ failed_writes failures gate bytes)
stored_is_synced failures first (Some gate) (Some bytes) c left = left
stored_is_synced zero first (Some gate) None c left = left
stored_is_synced (suc failures) first (Some gate) None c left = left
stored_is_synced zero first None bytes c left = left
stored_is_synced (suc failures) first None bytes c left = left

pub goes_on : (failures : ℕ) (first c : List ℕ) (gate : Option ℕ) (bytes : Option (List ℕ)) (later : List DeviceCall)
    → CrashLeftSince first (later ++ (calls_to_store gate bytes ++ failed_writes failures gate bytes))
    (length (calls_to_store gate bytes ++ failed_writes failures gate bytes)) c
    → CrashLeftSince (content_after first (calls_to_store gate bytes ++ failed_writes failures gate bytes)) later 0 c
goes_on failures first c gate bytes later left =
    since_joined first c later (calls_to_store gate bytes ++ failed_writes failures gate bytes) (stored_is_synced failures first gate bytes) left

-- ---- beginning with writes that failed

-- what is torn twice in a range is torn in it
torn_again : (at n : ℕ) (old torn new : List ℕ) → Torn at n old torn → Torn at n torn new → Torn at n old new
torn_again at n old torn new one two =
    let longer = one.no_shorter in
    let still = two.no_shorter in
    let within = one.no_longer in
    let at_last = two.no_longer in record {
      before = two.before ∙ one.before;
      after = two.after ∙ one.after;
      no_shorter = omega (arith, longer, still);
      no_longer = grind (arith, longer, still, within, at_last);
    }

module _ (first : List ℕ) (gate : ℕ) (bytes : List ℕ) where
  abbrev failed : ℕ → List DeviceCall
  failed failures = failed_writes failures (Some gate) (Some bytes)

  abbrev IsTorn : List ℕ → List ℕ → Type 0
  IsTorn = Torn (gate + 1) (length (drop 1 bytes))

  failed_read : (failures : ℕ) → content_after first (failed failures) ≡ first
  failed_read zero = refl
  failed_read (suc failures) = failed_read failures

  same_or_torn : (c d : List ℕ) → (c ≡ first) ⊎ IsTorn first c → IsTorn c d → IsTorn first d
  same_or_torn c d (inl same) torn = subst (λ (l : List ℕ). IsTorn l d) same torn
  same_or_torn c d (inr once) torn = torn_again (gate + 1) (length (drop 1 bytes)) first c d once torn

  failed_leave : (failures : ℕ) (c : List ℕ) → CrashLeaves first (failed failures) c → (c ≡ first) ⊎ IsTorn first c
  failed_leave zero c is = inl is
  failed_leave (suc failures) c (inl is) = inl (is ∙ failed_read failures)
  failed_leave (suc failures) c (inr (d, old, torn)) = inr (same_or_torn d c (failed_leave failures d old) torn)

  failed_since : (failures : ℕ) (c : List ℕ) → CrashLeftSince first (failed failures) 0 c → (c ≡ first) ⊎ IsTorn first c
  failed_since zero c (from, is) = inl is
  failed_since (suc failures) c (inl (from, is)) = failed_leave (suc failures) c is
  failed_since (suc failures) c (inr before) = failed_since failures c before

  abbrev written : List DeviceCall
  written = wrote (gate + 1) (drop 1 bytes) ∷ []

  abbrev opened : List DeviceCall
  opened = wrote gate (take 1 bytes) ∷ synced ∷ written

  -- what a crash leaves of them, a crash in the first write leaves too
  as_first : (c : List ℕ) → (c ≡ first) ⊎ IsTorn first c → CrashLeftSince first (synced ∷ opened) 0 c
  as_first c (inl same) = inr (inr (inr (inr (omega arith, same))))
  as_first c (inr torn) = inr (inr (inr (inl (omega arith, inr (first, refl, torn)))))

  read_same : (failures : ℕ) (calls : List DeviceCall) → content_after first (calls ++ failed failures) ≡ content_after first calls
  read_same failures calls = content_joined first calls (failed failures) ∙ ap (λ (l : List ℕ). content_after l calls) (failed_read failures)

  left_same : (failures : ℕ) (c : List ℕ) → CrashLeftSince first ((synced ∷ opened) ++ failed failures) 0 c
      → CrashLeftSince first (synced ∷ opened) 0 c
  left_same failures c (inl (late, is)) = inl (omega arith, is ∙ read_same failures opened)
  left_same failures c (inr (inl (late, inl is))) = inr (inl (omega arith, inl (is ∙ read_same failures opened)))
  left_same failures c (inr (inl (late, inr (d, is, torn)))) = inr (inl (omega arith, inr (d, is ∙ read_same failures written, torn)))
  left_same failures c (inr (inr (inl (late, is)))) = inr (inr (inl (omega arith, is ∙ read_same failures written)))
  left_same failures c (inr (inr (inr (inl (late, inl is))))) = inr (inr (inr (inl (omega arith, inl (is ∙ read_same failures written)))))
  left_same failures c (inr (inr (inr (inl (late, inr (d, old, torn)))))) = as_first c (inr (same_or_torn d c (failed_leave failures d old) torn))
  left_same failures c (inr (inr (inr (inr before)))) = as_first c (failed_since failures c before)

-- the host's calls leave no more, and are read as the same, if the first one failed before
pub left_without : (failures : ℕ) (gate : Option ℕ) (bytes : Option (List ℕ)) (first c : List ℕ)
    → CrashLeftSince first (calls_to_store gate bytes ++ failed_writes failures gate bytes) 0 c
    → CrashLeftSince first (calls_to_store gate bytes) 0 c
left_without failures (Some gate) (Some bytes) first c left = left_same first gate bytes failures c left
left_without zero (Some gate) None first c left = left
left_without (suc failures) (Some gate) None first c left = left
left_without zero None bytes first c left = left
left_without (suc failures) None bytes first c left = left

pub read_without : (failures : ℕ) (gate : Option ℕ) (bytes : Option (List ℕ)) (first : List ℕ)
    → content_after first (calls_to_store gate bytes ++ failed_writes failures gate bytes) ≡ content_after first (calls_to_store gate bytes)
read_without failures (Some gate) (Some bytes) first = read_same first gate bytes failures (calls_to_store (Some gate) (Some bytes))
read_without zero (Some gate) None first = refl
read_without (suc failures) (Some gate) None first = refl
read_without zero None bytes first = refl
read_without (suc failures) None bytes first = refl

pub leave_without : (failures : ℕ) (gate : Option ℕ) (bytes : Option (List ℕ)) (first c : List ℕ)
    → CrashLeaves first (calls_to_store gate bytes ++ failed_writes failures gate bytes) c → CrashLeaves first (calls_to_store gate bytes) c
leave_without failures gate bytes first c left =
    subst (CrashLeaves first (calls_to_store gate bytes)) (sym (stored_is_synced failures first gate bytes c left ∙ read_without failures gate bytes first))
    (read_left first (calls_to_store gate bytes))
