-- The bytes of frames, by how they are kept.
use Rattle.std.proofs.Common.{◌≡◌, ℕ, zero, suc, min, Bool, true, false, cond, leb, ltb, ◌+◌, ◌-◌, ◌<◌, ◌≤◌, ◌⊎◌, inl, inr, List, [], ◌∷◌, ◌++◌, length, get_or, take, drop, refl, sym, ap, subst, ◌∙◌, arith}
use Rattle.std.proofs.lemmas.List.{append-nil, append_assoc, drop-append-le, get_or_append_left, get_or_push, length-append, length-drop, take-append-drop, take_all, drop_all, drop-drop}
use Rattle.std.proofs.Math.Seq.{drop-append-add, take-append_seam}
use Rattle.std.proofs.lemmas.Bool.{leb-true, leb-false, ltb-true, ltb-false}
use Rattle.world_core.specs.Sharing.{AreShared, HasEndOf, IsShared, bytes_over, ending, frames_after}
use Rattle.world_core.specs.declared.frames.Kept.{Kept}

-- ---- lists of frames

pub stays : (before : List (List ℕ)) (kept : List Kept) (at : ℕ) → at < length before → get_or (frames_after before kept) at [] ≡ get_or before at []
stays before [] at low = refl
stays before (k ∷ ks) at low =
    let more : length (before ++ bytes_over before k ∷ []) ≡ length before + 1 = length-append before (bytes_over before k ∷ []) in
    stays (before ++ bytes_over before k ∷ []) ks at (omega (arith, low, more)) ∙ get_or_append_left before (bytes_over before k ∷ []) [] at low

length_from : (before : List (List ℕ)) (kept : List Kept) → length (frames_after before kept) ≡ length before + length kept
length_from before [] = omega arith
length_from before (k ∷ ks) =
    let more : length (before ++ bytes_over before k ∷ []) ≡ length before + 1 = length-append before (bytes_over before k ∷ []) in
    let rest : length (frames_after (before ++ bytes_over before k ∷ []) ks) ≡ length (before ++ bytes_over before k ∷ []) + length ks = length_from (before ++ bytes_over before k ∷ []) ks in
    omega (arith, more, rest)

pub how_many : (kept : List Kept) → length (frames_after [] kept) ≡ length kept
how_many kept = let e : length (frames_after [] kept) ≡ 0 + length kept = length_from [] kept in omega (arith, e)

pub one_more : (before : List (List ℕ)) (kept : List Kept) (k : Kept) → frames_after before (kept ++ k ∷ []) ≡ frames_after before kept ++ bytes_over (frames_after before kept) k ∷ []
one_more before [] k = refl
one_more before (x ∷ xs) k = one_more (before ++ bytes_over before x ∷ []) xs k

pub one_more_shared : (before : List (List ℕ)) (kept : List Kept) (k : Kept) → AreShared before kept → IsShared (frames_after before kept) k → AreShared before (kept ++ k ∷ [])
one_more_shared before [] k all is = (is, tt)
one_more_shared before (x ∷ xs) k all is = (all.0, one_more_shared (before ++ bytes_over before x ∷ []) xs k all.1 is)

-- ---- fewer frames

pub fewer_shared : (before : List (List ℕ)) (kept : List Kept) (n : ℕ) → AreShared before kept → AreShared before (take n kept)
fewer_shared before kept zero all = tt
fewer_shared before [] (suc n) all = tt
fewer_shared before (k ∷ ks) (suc n) all = (all.0, fewer_shared (before ++ bytes_over before k ∷ []) ks n all.1)

rest_behind : (before : List (List ℕ)) (kept : List Kept) → (rest : List (List ℕ)) × (frames_after before kept ≡ before ++ rest)
rest_behind before [] = ([], sym (append-nil before))
rest_behind before (k ∷ ks) =
    let whole = rest_behind (before ++ bytes_over before k ∷ []) ks in
    (bytes_over before k ∷ whole.0, whole.1 ∙ append_assoc before (bytes_over before k ∷ []) whole.0)

front_from : (before : List (List ℕ)) (kept : List Kept) → take (length before) (frames_after before kept) ≡ before
front_from before kept =
    let whole = rest_behind before kept in
    ap (take (length before)) whole.1 ∙ take-append_seam before whole.0

fewer_from : (before : List (List ℕ)) (kept : List Kept) (n : ℕ) → frames_after before (take n kept) ≡ take (length before + n) (frames_after before kept)
fewer_from before kept zero = sym (ap (λ m. take m (frames_after before kept)) (let e : length before + 0 ≡ length before = omega arith in e) ∙ front_from before kept)
fewer_from before [] (suc n) = sym (take_all (length before + suc n) before (omega arith))
fewer_from before (k ∷ ks) (suc n) =
    let now : List (List ℕ) = before ++ bytes_over before k ∷ [] in
    let more : length now ≡ length before + 1 = length-append before (bytes_over before k ∷ []) in
    fewer_from now ks n ∙ ap (λ m. take m (frames_after now ks)) (let e : length now + n ≡ length before + suc n = omega (arith, more) in e)

pub fewer : (kept : List Kept) (n : ℕ) → frames_after [] (take n kept) ≡ take n (frames_after [] kept)
fewer kept n = fewer_from [] kept n ∙ ap (λ m. take m (frames_after [] kept)) (let e : 0 + n ≡ n = omega arith in e)

-- ---- one frame

-- how a frame is kept, by all frames
pub record IsPlaced (frames : List (List ℕ)) (place : ℕ) (k : Kept) : Type 0 where
  pub bytes : get_or frames place [] ≡ k.own.items ++ ending k.shared (get_or frames k.of [])
  pub earlier : (k.shared ≡ 0) ⊎ (k.of < place)
  pub within : k.shared ≤ length (get_or frames k.of [])
  pub length : k.len ≡ length (get_or frames place [])

ending_none : (xs : List ℕ) (n : ℕ) → n ≡ 0 → ending n xs ≡ []
ending_none xs n e = drop_all (length xs - n) xs (omega (arith, e))

-- what is shared is of a frame that stands before, or nothing
same_end : (before all : List (List ℕ)) (k : Kept) → ((at : ℕ) → at < length before → get_or all at [] ≡ get_or before at []) → (k.shared ≡ 0) ⊎ (k.of < length before)
    → k.shared ≤ length (get_or before k.of []) → (ending k.shared (get_or before k.of []) ≡ ending k.shared (get_or all k.of [])) × (k.shared ≤ length (get_or all k.of []))
same_end before all k same (inl none) within = (ending_none (get_or before k.of []) k.shared none ∙ sym (ending_none (get_or all k.of []) k.shared none), omega (arith, none))
same_end before all k same (inr low) within =
    (ap (ending k.shared) (sym (same k.of low)), subst (λ l. k.shared ≤ length l) (sym (same k.of low)) within)

earlier_of : (k : Kept) (m n : ℕ) → m ≡ n → (k.shared ≡ 0) ⊎ (k.of < m) → (k.shared ≡ 0) ⊎ (k.of < n)
earlier_of k m n e (inl none) = inl none
earlier_of k m n e (inr low) = inr (omega (arith, e, low))

placed_from : (before : List (List ℕ)) (kept : List Kept) (p : ℕ) (d : Kept) → AreShared before kept → p < length kept → IsPlaced (frames_after before kept) (length before + p) (get_or kept p d)
placed_from before [] p d all low = absurd (omega (arith, low))
placed_from before (k ∷ ks) zero d all low =
    let now : List (List ℕ) = before ++ bytes_over before k ∷ [] in
    let frames : List (List ℕ) = frames_after now ks in
    let more : length now ≡ length before + 1 = length-append before (bytes_over before k ∷ []) in
    let number : length before + 0 ≡ length before = omega arith in
    let here : get_or frames (length before + 0) [] ≡ bytes_over before k =
    ap (λ m. get_or frames m []) number ∙ stays now ks (length before) (omega (arith, more)) ∙ get_or_push before (bytes_over before k) [] (length before) refl in
    let end = same_end before frames k (λ at there. stays now ks at (omega (arith, there, more)) ∙ get_or_append_left before (bytes_over before k ∷ []) [] at there) all.0.there all.0.within in
    record {
      bytes = here ∙ ap (λ e. k.own.items ++ e) end.0;
      earlier = earlier_of k (length before) (length before + 0) (sym number) all.0.there;
      within = end.1;
      length = all.0.length ∙ ap length (sym here);
    }
placed_from before (k ∷ ks) (suc p) d all low =
    let now : List (List ℕ) = before ++ bytes_over before k ∷ [] in
    let more : length now ≡ length before + 1 = length-append before (bytes_over before k ∷ []) in
    subst (λ m. IsPlaced (frames_after now ks) m (get_or ks p d)) (let e : length now + p ≡ length before + suc p = omega (arith, more) in e)
    (placed_from now ks p d all.1 (omega (arith, low)))

pub placed : (kept : List Kept) (p : ℕ) (d : Kept) → AreShared [] kept → p < length kept → IsPlaced (frames_after [] kept) p (get_or kept p d)
placed kept p d all low = subst (λ m. IsPlaced (frames_after [] kept) m (get_or kept p d)) (let e : 0 + p ≡ p = omega arith in e) (placed_from [] kept p d all low)

-- ---- the walk from a frame down to those that it shares with

-- the bytes that were read, and what is left to read at the end of a frame, are the frame that was asked for
pub record Walking (frames : List (List ℕ)) (place at left : ℕ) (bytes : List ℕ) : Type 0 where
  pub there : (left ≡ 0) ⊎ (at < length frames)
  pub within : left ≤ length (get_or frames at [])
  pub whole : bytes ++ ending left (get_or frames at []) ≡ get_or frames place []

ending_all : (xs : List ℕ) (n : ℕ) → n ≡ length xs → ending n xs ≡ xs
ending_all xs n e = ap (λ m. drop m xs) (let z : length xs - n ≡ 0 = omega (arith, e) in z)

pub begun : (frames : List (List ℕ)) (place left : ℕ) (bytes : List ℕ) → place < length frames → left ≡ length (get_or frames place []) → bytes ≡ [] → Walking frames place place left bytes
begun frames place left bytes low e nothing = record {
  there = inr low;
  within = omega (arith, e);
  whole = ap (λ b. b ++ ending left (get_or frames place [])) nothing ∙ ending_all (get_or frames place []) left e;
}

pub ended : (frames : List (List ℕ)) (place at left : ℕ) (bytes : List ℕ) → left ≤ 0 → Walking frames place at left bytes → bytes ≡ get_or frames place []
ended frames place at left bytes low w =
    sym (append-nil bytes) ∙ ap (λ e. bytes ++ e) (sym (ending_none (get_or frames at []) left (omega (arith, low)))) ∙ w.whole

length_ending : (xs : List ℕ) (n : ℕ) → n ≤ length xs → length (ending n xs) ≡ n
length_ending xs n low = let l : length (ending n xs) ≡ length xs - (length xs - n) = length-drop (length xs - n) xs in omega (arith, l, low)

ending_append : (xs ys : List ℕ) (n : ℕ) → n ≤ length ys → ending n (xs ++ ys) ≡ ending n ys
ending_append xs ys n low =
    let long : length (xs ++ ys) ≡ length xs + length ys = length-append xs ys in
    ap (λ m. drop m (xs ++ ys)) (let e : length (xs ++ ys) - n ≡ length xs + (length ys - n) = omega (arith, long, low) in e)
    ∙ drop-append-add xs ys (length ys - n)

ending_ending : (xs : List ℕ) (n m : ℕ) → n ≤ m → m ≤ length xs → ending n (ending m xs) ≡ ending n xs
ending_ending xs n m few low =
    let long : length (ending m xs) ≡ m = length_ending xs m low in
    drop-drop (length (ending m xs) - n) (length xs - m) xs
    ∙ ap (λ k. drop k xs) (let e : length xs - m + (length (ending m xs) - n) ≡ length xs - n = omega (arith, long, few, low) in e)

there_of : (k : Kept) (left at : ℕ) (frames : List (List ℕ)) → 0 < left → left ≤ k.shared → (k.shared ≡ 0) ⊎ (k.of < at) → at < length frames → (left ≡ 0) ⊎ (k.of < length frames)
there_of k left at frames some few (inl none) low = absurd (omega (arith, some, few, none))
there_of k left at frames some few (inr less) low = inr (omega (arith, less, low))

shared_there : (k : Kept) (at : ℕ) (frames : List (List ℕ)) → (k.shared ≡ 0) ⊎ (k.of < at) → at < length frames → (k.shared ≡ 0) ⊎ (k.of < length frames)
shared_there k at frames (inl none) low = inl none
shared_there k at frames (inr less) low = inr (omega (arith, less, low))

-- nothing of the frame's own is left to read
pub passed : (frames : List (List ℕ)) (place at left : ℕ) (bytes : List ℕ) (k : Kept) → 0 < left → left ≤ k.shared → Walking frames place at left bytes → IsPlaced frames at k
    → at < length frames → Walking frames place k.of left bytes
passed frames place at left bytes k some few w is low =
    let rest : List ℕ = get_or frames k.of [] in
    let within = is.within in
    let long : length (ending k.shared rest) ≡ k.shared = length_ending rest k.shared within in
    record {
      there = there_of k left at frames some few is.earlier low;
      within = omega (arith, few, within);
      whole = ap (λ e. bytes ++ e) (sym (ap (ending left) is.bytes ∙ ending_append k.own.items (ending k.shared rest) left (omega (arith, few, long)) ∙ ending_ending rest left k.shared few within)) ∙ w.whole;
    }

-- some of its own is
pub read : (frames : List (List ℕ)) (place at left : ℕ) (bytes more : List ℕ) (k : Kept) → k.shared < left → Walking frames place at left bytes → IsPlaced frames at k
    → at < length frames → more ≡ bytes ++ drop (length k.own.items - (left - k.shared)) k.own.items → Walking frames place k.of k.shared more
read frames place at left bytes more k few w is low e =
    let rest : List ℕ = get_or frames k.of [] in
    let own : List ℕ = k.own.items in
    let tail : List ℕ = ending k.shared rest in
    let within = is.within in
    let all = w.within in
    let long : length tail ≡ k.shared = length_ending rest k.shared within in
    let whole : length (own ++ tail) ≡ length own + length tail = length-append own tail in
    let known : length (get_or frames at []) ≡ length (own ++ tail) = ap length is.bytes in
    let cut : ending left (get_or frames at []) ≡ drop (length own - (left - k.shared)) own ++ tail =
    ap (ending left) is.bytes
    ∙ ap (λ m. drop m (own ++ tail)) (let z : length (own ++ tail) - left ≡ length own - (left - k.shared) = omega (arith, whole, long, few, known, all) in z)
    ∙ drop-append-le (length own - (left - k.shared)) own tail (omega arith) in
    record {
      there = shared_there k at frames is.earlier low;
      within = within;
      whole = ap (λ b. b ++ tail) e ∙ append_assoc bytes (drop (length own - (left - k.shared)) own) tail ∙ ap (λ x. bytes ++ x) (sym cut) ∙ w.whole;
    }

-- ---- what is added

there_at : (k : Kept) (place count : ℕ) (frames : List (List ℕ)) → k.of ≡ place → k.shared ≡ count → (count ≡ 0) ⊎ (place < length frames) → (k.shared ≡ 0) ⊎ (k.of < length frames)
there_at k place count frames of shared (inl none) = inl (shared ∙ none)
there_at k place count frames of shared (inr low) = inr (omega (arith, of, low))

pub added : (frames : List (List ℕ)) (place count : ℕ) (bytes : List ℕ) (k : Kept) → HasEndOf frames place count bytes → k.of ≡ place → k.shared ≡ count → k.len ≡ length bytes
    → k.own.items ≡ take (length bytes - count) bytes → IsShared frames k × (bytes_over frames k ≡ bytes)
added frames place count bytes k is of shared len own =
    let whole : bytes_over frames k ≡ bytes =
    (λ i. own i ++ ending (shared i) (get_or frames (of i) []))
    ∙ ap (λ e. take (length bytes - count) bytes ++ e) is.same ∙ take-append-drop (length bytes - count) bytes in (
      record {
        there = there_at k place count frames of shared is.there;
        within = let w = is.within in let e : get_or frames k.of [] ≡ get_or frames place [] = ap (λ m. get_or frames m []) of in let l : length (get_or frames k.of []) ≡ length (get_or frames place []) = ap length e in omega (arith, w, l, shared);
        length = len ∙ ap length (sym whole);
      },
      whole,
    )

-- ---- one step of the walk

step_by : (frames : List (List ℕ)) (place at left rest : ℕ) (bytes more : List ℕ) (k : Kept) → 0 < left → Walking frames place at left bytes → IsPlaced frames at k → at < length frames
    → more ≡ bytes ++ drop (length k.own.items - (left - k.shared)) k.own.items → rest ≡ min left k.shared → (b : Bool) → leb left k.shared ≡ b → Walking frames place k.of rest more
step_by frames place at left rest bytes more k some w is low e r true few =
    let most : left ≤ k.shared = leb-true left k.shared few in
    let none : drop (length k.own.items - (left - k.shared)) k.own.items ≡ [] = drop_all (length k.own.items - (left - k.shared)) k.own.items (omega (arith, most)) in
    let same : bytes ≡ more = sym (e ∙ ap (λ x. bytes ++ x) none ∙ append-nil bytes) in
    let all : left ≡ rest = omega (arith, r, most) in
    subst (λ n. Walking frames place k.of n more) all (subst (Walking frames place k.of left) same (passed frames place at left bytes k some most w is low))
step_by frames place at left rest bytes more k some w is low e r false few =
    let less : k.shared < left = leb-false left k.shared few in
    let all : k.shared ≡ rest = omega (arith, r, less) in
    subst (λ n. Walking frames place k.of n more) all (read frames place at left bytes more k less w is low e)

pub step : (frames : List (List ℕ)) (place at left rest : ℕ) (bytes more : List ℕ) (k : Kept) → 0 < left → Walking frames place at left bytes → IsPlaced frames at k → at < length frames
    → more ≡ bytes ++ drop (length k.own.items - (left - k.shared)) k.own.items → rest ≡ min left k.shared → Walking frames place k.of rest more
step frames place at left rest bytes more k some w is low e r = step_by frames place at left rest bytes more k some w is low e r (leb left k.shared) refl

-- while something is left the place goes down
down_by : (k : Kept) (at left rest : ℕ) → 0 < left → (k.shared ≡ 0) ⊎ (k.of < at) → rest ≡ min left k.shared → (b : Bool) → ltb 0 rest ≡ b → (c : Bool) → ltb 0 left ≡ c
    → cond b (k.of + 1) 0 < cond c (at + 1) 0
down_by k at left rest some earlier r b e false f = let no : left ≤ 0 = ltb-false 0 left f in absurd (omega (arith, some, no))
down_by k at left rest some earlier r false e true f = omega arith
down_by k at left rest some (inl none) r true e true f = let yes : 0 < rest = ltb-true 0 rest e in absurd (omega (arith, yes, r, none))
down_by k at left rest some (inr less) r true e true f = omega (arith, less)

pub down : (k : Kept) (at left rest : ℕ) → 0 < left → (k.shared ≡ 0) ⊎ (k.of < at) → rest ≡ min left k.shared → cond (ltb 0 rest) (k.of + 1) 0 < cond (ltb 0 left) (at + 1) 0
down k at left rest some earlier r = down_by k at left rest some earlier r (ltb 0 rest) refl (ltb 0 left) refl

-- the frame that is read from, by its place
pub within_own : (frames : List (List ℕ)) (place at left : ℕ) (bytes : List ℕ) (k : Kept) → Walking frames place at left bytes → IsPlaced frames at k → left - k.shared ≤ length k.own.items
within_own frames place at left bytes k w is =
    let all = w.within in
    let within = is.within in
    let known : length (get_or frames at []) ≡ length (k.own.items ++ ending k.shared (get_or frames k.of [])) = ap length is.bytes in
    let whole : length (k.own.items ++ ending k.shared (get_or frames k.of [])) ≡ length k.own.items + length (ending k.shared (get_or frames k.of [])) = length-append k.own.items (ending k.shared (get_or frames k.of [])) in
    let long : length (ending k.shared (get_or frames k.of [])) ≡ k.shared = length_ending (get_or frames k.of []) k.shared within in
    omega (arith, all, known, whole, long)

pub there_now : (frames : List (List ℕ)) (place at left : ℕ) (bytes : List ℕ) → 0 < left → (left ≡ 0) ⊎ (at < length frames) → at < length frames
there_now frames place at left bytes some (inl none) = absurd (omega (arith, some, none))
there_now frames place at left bytes some (inr low) = low

pub placed_as : (kept : List Kept) (at : ℕ) (k : Kept) → AreShared [] kept → at < length kept → k ≡ get_or kept at k → IsPlaced (frames_after [] kept) at k
placed_as kept at k all low is = subst (IsPlaced (frames_after [] kept) at) (sym is) (placed kept at k all low)

pub low_now : (kept : List Kept) (place at left : ℕ) (bytes : List ℕ) → 0 < left → Walking (frames_after [] kept) place at left bytes → at < length kept
low_now kept place at left bytes some w = subst (λ n. at < n) (how_many kept) (there_now (frames_after [] kept) place at left bytes some w.there)

-- ---- the frame that keeps some of an end as its own

-- what stands before the end was read, so to speak
pub at_first : (kept : List Kept) (place count : ℕ) → place < length kept → count ≤ length (get_or (frames_after [] kept) place [])
    → Walking (frames_after [] kept) place place count (take (length (get_or (frames_after [] kept) place []) - count) (get_or (frames_after [] kept) place []))
at_first kept place count low within =
    let frame : List ℕ = get_or (frames_after [] kept) place [] in record {
      there = inr (subst (λ n. place < n) (sym (how_many kept)) low);
      within = within;
      whole = take-append-drop (length frame - count) frame;
    }

-- while there is an end the place goes down
pub less : (k : Kept) (at count : ℕ) → 0 < count → count ≤ k.shared → (k.shared ≡ 0) ⊎ (k.of < at) → k.of < at
less k at count some few (inl none) = absurd (omega (arith, some, few, none))
less k at count some few (inr low) = low
