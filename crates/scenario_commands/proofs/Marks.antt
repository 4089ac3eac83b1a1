-- Marks: which frames were given.
use Rattle.std.proofs.Common.{◌≡◌, ℕ, zero, suc, ◌+◌, ◌-◌, ◌<◌, ◌≤◌, Bool, true, false, List, [], ◌∷◌, ◌++◌, length, take, replicate, Some, None, Result, Ok, Err, OnOk, OnErr, refl, sym, ap, subst, ◌∙◌, append_assoc, arith, ◌⊎◌, inl, inr}
use Rattle.std.specs.Prelude.{slice_get, slice_set}
use Rattle.std.specs.declared.alloc.AllocError.{AllocError}
use Rattle.std.proofs.lemmas.List.{append-nil, length-append, length-replicate, length-set, length-take, replicate-append-replicate}
use Rattle.std.specs.Option.{unwrap_or}
use Rattle.scenario_commands.specs.Obeying.{first_waiting, was_given, with_given, with_new}

-- there is a mark for each frame
pub length-with_new : (n : ℕ) (marks : List Bool) → length marks ≤ n → length (with_new n marks) ≡ n
length-with_new n marks few = omega (arith, length-append marks (replicate (n - length marks) false), length-replicate (n - length marks) false)

-- room that was made before makes no difference
pub with_new-with_new : (m n : ℕ) (marks : List Bool) → length marks ≤ m → m ≤ n → with_new n (with_new m marks) ≡ with_new n marks
with_new-with_new m n marks few more =
    let long : length (with_new m marks) ≡ m = length-with_new m marks few in
    let all : (m - length marks) + (n - length (with_new m marks)) ≡ n - length marks = omega arith in
    append_assoc marks (replicate (m - length marks) false) (replicate (n - length (with_new m marks)) false)
    ∙ ap (λ (rest : List Bool). marks ++ rest) (replicate-append-replicate (m - length marks) (n - length (with_new m marks)) false)
    ∙ ap (λ k. marks ++ replicate k false) all

pub with_new-none : (n : ℕ) (marks : List Bool) → n ≤ length marks → with_new n marks ≡ marks
with_new-none n marks enough =
    let none : n - length marks ≡ 0 = omega arith in
    ap (λ k. marks ++ replicate k false) none ∙ append-nil marks

-- a mark in a front is set there
set-append : (front rest : List Bool) (place : ℕ) → place < length front → slice_set (front ++ rest) place true ≡ slice_set front place true ++ rest
set-append [] rest place low = absurd (omega arith)
set-append (mark ∷ front) rest zero low = refl
set-append (mark ∷ front) rest (suc place) low = ap (λ (marks : List Bool). mark ∷ marks) (set-append front rest place (omega arith))

-- whether room is made before or after
pub given_then_new : (n frame : ℕ) (marks : List Bool) → 1 ≤ frame → frame ≤ length marks → with_new n (with_given frame marks) ≡ with_given frame (with_new n marks)
given_then_new n frame marks some few =
    let same : length (with_given frame marks) ≡ length marks = length-set marks (frame - 1) true in
    ap (λ k. with_given frame marks ++ replicate (n - k) false) same
    ∙ sym (set-append marks (replicate (n - length marks) false) (frame - 1) (omega arith))

-- a mark that was set is set again
set-set : (marks : List Bool) (place : ℕ) → slice_set (slice_set marks place true) place true ≡ slice_set marks place true
set-set [] place = refl
set-set (mark ∷ marks) zero = refl
set-set (mark ∷ marks) (suc place) = ap (λ (rest : List Bool). mark ∷ rest) (set-set marks place)

pub given_twice : (frame : ℕ) (marks : List Bool) → with_given frame (with_given frame marks) ≡ with_given frame marks
given_twice frame marks = set-set marks (frame - 1)

-- ---- marks at the front that are all set

pub set_within : (settled : ℕ) (marks : List Bool) → take settled marks ≡ replicate settled true → settled ≤ length marks
set_within settled marks set = omega (arith, length-take settled marks, length-replicate settled true, ap length set)

take_append : (settled : ℕ) (marks rest : List Bool) → settled ≤ length marks → take settled (marks ++ rest) ≡ take settled marks
take_append zero marks rest few = refl
take_append (suc settled) [] rest few = absurd (omega arith)
take_append (suc settled) (mark ∷ marks) rest few = ap (λ (xs : List Bool). mark ∷ xs) (take_append settled marks rest (omega arith))

set_kept : (settled place : ℕ) (marks : List Bool) → take settled marks ≡ replicate settled true → take settled (slice_set marks place true) ≡ replicate settled true
set_kept zero place marks set = refl
set_kept (suc settled) place [] set = set
set_kept (suc settled) zero (mark ∷ marks) set = let rest : take settled marks ≡ replicate settled true = cc in ap (λ (xs : List Bool). true ∷ xs) rest
set_kept (suc settled) (suc place) (mark ∷ marks) set =
    let first : mark ≡ true = cc in
    let rest : take settled marks ≡ replicate settled true = cc in
    ap (λ m. m ∷ take settled (slice_set marks place true)) first ∙ ap (λ (xs : List Bool). true ∷ xs) (set_kept settled place marks rest)

-- they stay so if a mark is set and room is made
pub settled_kept : (settled frame : ℕ) (marks : List Bool) → take settled marks ≡ replicate settled true → take settled (with_given frame (with_new frame marks)) ≡ replicate settled true
settled_kept settled frame marks set =
    set_kept settled (frame - 1) (with_new frame marks)
    (take_append settled marks (replicate (frame - length marks) false) (set_within settled marks set) ∙ set)

-- ---- the first that waits

split_le : (m n : ℕ) → m ≤ n → (m < n) ⊎ (m ≡ n)
split_le zero zero le = inr refl
split_le zero (suc n) le = inl (omega arith)
split_le (suc m) zero le = absurd (omega arith)
split_le (suc m) (suc n) le = elim (split_le m n (omega arith)) [
  | inl less ↦ inl (omega (arith, less))
  | inr same ↦ inr (ap suc same)
]

pub waits_behind : (number settled : ℕ) (marks : List Bool) → take settled marks ≡ replicate settled true → slice_get marks settled ≡ Some false → first_waiting number marks ≡ Some (number + settled)
waits_behind number zero [] set next = let no : None ≡ Some false = next in absurd (cc)
waits_behind number zero (true ∷ marks) set next = let no : true ≡ false = cc in absurd (cc)
waits_behind number zero (false ∷ marks) set next = let e : number ≡ number + 0 = omega arith in ap Some e
waits_behind number (suc settled) [] set next = let no : None ≡ Some false = next in absurd (cc)
waits_behind number (suc settled) (true ∷ marks) set next =
    let rest : take settled marks ≡ replicate settled true = cc in
    let e : (number + 1) + settled ≡ number + suc settled = omega arith in
    waits_behind (number + 1) settled marks rest next ∙ ap Some e
waits_behind number (suc settled) (false ∷ marks) set next = let no : false ≡ true = cc in absurd (cc)

none_waits : (number settled : ℕ) (marks : List Bool) → take settled marks ≡ replicate settled true → length marks ≤ settled → first_waiting number marks ≡ None
none_waits number settled [] set all = refl
none_waits number zero (mark ∷ marks) set all = absurd (omega arith)
none_waits number (suc settled) (true ∷ marks) set all = let rest : take settled marks ≡ replicate settled true = cc in none_waits (number + 1) settled marks rest (omega arith)
none_waits number (suc settled) (false ∷ marks) set all = let no : false ≡ true = cc in absurd (cc)

get_new : (settled : ℕ) (marks : List Bool) (more : ℕ) → length marks ≡ settled → slice_get (marks ++ replicate (suc more) false) settled ≡ Some false
get_new zero [] more here = refl
get_new zero (mark ∷ marks) more here = absurd (omega arith)
get_new (suc settled) [] more here = absurd (omega arith)
get_new (suc settled) (mark ∷ marks) more here = get_new settled marks more (omega arith)

get_front : (settled : ℕ) (marks rest : List Bool) → slice_get marks settled ≡ Some false → slice_get (marks ++ rest) settled ≡ Some false
get_front settled [] rest next = let no : None ≡ Some false = next in absurd (cc)
get_front zero (mark ∷ marks) rest next = next
get_front (suc settled) (mark ∷ marks) rest next = get_front settled marks rest next

-- the mark behind the settled ones isn't set, if there are so many marks or more frames
get_behind : (frames settled : ℕ) (marks : List Bool) → settled ≤ length marks → settled < frames → (settled < length marks → slice_get marks settled ≡ Some false) → slice_get (with_new frames marks) settled ≡ Some false
get_behind frames settled marks within low next = elim (split_le settled (length marks) within) [
  | inl less ↦ get_front settled marks (replicate (frames - length marks) false) (next less)
  | inr here ↦
      let more : frames - length marks ≡ suc (frames - length marks - 1) = omega arith in
      subst (λ k. slice_get (marks ++ replicate k false) settled ≡ Some false) (sym more) (get_new settled marks (frames - length marks - 1) (sym here))
]

-- of so many frames the first behind the settled ones waits
pub first_behind : (frames settled : ℕ) (marks : List Bool) → length marks ≤ frames → take settled marks ≡ replicate settled true
    → (settled < length marks → slice_get marks settled ≡ Some false) → settled < frames → first_waiting 1 (with_new frames marks) ≡ Some (settled + 1)
first_behind frames settled marks few set next low =
    let within : settled ≤ length marks = set_within settled marks set in
    let front : take settled (with_new frames marks) ≡ replicate settled true = take_append settled marks (replicate (frames - length marks) false) within ∙ set in
    let e : 1 + settled ≡ settled + 1 = omega arith in
    waits_behind 1 settled (with_new frames marks) front (get_behind frames settled marks within low next) ∙ ap Some e

-- all are settled
pub none_behind : (frames settled : ℕ) (marks : List Bool) → length marks ≤ frames → take settled marks ≡ replicate settled true → frames ≤ settled → first_waiting 1 (with_new frames marks) ≡ None
none_behind frames settled marks few set all =
    let within : settled ≤ length marks = set_within settled marks set in
    let same : with_new frames marks ≡ marks = with_new-none frames marks (omega arith) in
    ap (first_waiting 1) same ∙ none_waits 1 settled marks set (omega arith)

-- a frame that waits is there
pub waits_within : (number frame : ℕ) (marks : List Bool) → first_waiting number marks ≡ Some frame → (number ≤ frame) × (frame < number + length marks)
waits_within number frame [] waits = absurd (cc)
waits_within number frame (true ∷ marks) waits = let w = waits_within (number + 1) frame marks waits in (omega (arith, w.0), omega (arith, w.1))
waits_within number frame (false ∷ marks) waits = let e : number ≡ frame = cc in (omega (arith, e), omega (arith, e))

-- ---- one mark is set, and there is room for it

le_or : (m n : ℕ) → (m ≤ n) ⊎ (n ≤ m)
le_or zero n = inl (omega arith)
le_or (suc m) zero = inr (omega arith)
le_or (suc m) (suc n) = elim (le_or m n) [
  | inl le ↦ inl (omega (arith, le))
  | inr le ↦ inr (omega (arith, le))
]

new_twice : (m n : ℕ) (marks : List Bool) → m ≤ n → with_new n (with_new m marks) ≡ with_new n marks
new_twice m n marks more = elim (le_or (length marks) m) [
  | inl few ↦ with_new-with_new m n marks few more
  | inr enough ↦ ap (with_new n) (with_new-none m marks enough)
]

long_new : (frame : ℕ) (marks : List Bool) → length (with_new frame marks) ≡ length marks + (frame - length marks)
long_new frame marks = omega (arith, length-append marks (replicate (frame - length marks) false), length-replicate (frame - length marks) false)

-- among the marks of so many frames it is set alone
pub set_alone : (frames frame : ℕ) (marks : List Bool) → 1 ≤ frame → frame ≤ frames → with_new frames (with_given frame (with_new frame marks)) ≡ with_given frame (with_new frames marks)
set_alone frames frame marks some within =
    given_then_new frames frame (with_new frame marks) some (omega (arith, long_new frame marks))
    ∙ ap (with_given frame) (new_twice frame frames marks within)

-- there are marks for a front of the frames, and so many at the front are set
abbrev pub IsMarked : (frames settled : ℕ) (marks : List Bool) → Type 0
IsMarked frames settled marks = (length marks ≤ frames) × (take settled marks ≡ replicate settled true)

pub marked_still : (r : Result Unit AllocError) (frames settled frame : ℕ) (old new : List Bool) → 1 ≤ frame → frame ≤ frames → IsMarked frames settled old
    → OnOk r (new ≡ with_given frame (with_new frame old)) → OnErr r (new ≡ old) → IsMarked frames settled new
marked_still (Ok done) frames settled frame old new some within is set same =
    let long : length new ≡ length old + (frame - length old) = ap length set ∙ length-set (with_new frame old) (frame - 1) true ∙ long_new frame old in
    (omega (arith, long, is.0), ap (take settled) set ∙ settled_kept settled frame old is.1)
marked_still (Err e) frames settled frame old new some within is set same = subst (IsMarked frames settled) (sym same) is

-- what is said of a frame by the marks that are there, is said by those of all frames
get_more : (k place : ℕ) (items : List Bool) → unwrap_or (slice_get (items ++ replicate k false) place) false ≡ unwrap_or (slice_get items place) false
get_more k zero (mark ∷ items) = refl
get_more k (suc place) (mark ∷ items) = get_more k place items
get_more zero place [] = refl
get_more (suc k) zero [] = refl
get_more (suc k) (suc place) [] = get_more k place []
