-- The frames that wait, as marks are set and added.
use Rattle.std.proofs.Common.{◌≡◌, ℕ, zero, suc, ◌+◌, ◌-◌, ◌<◌, ◌≤◌, Bool, true, false, List, [], ◌∷◌, ◌++◌, length, take, get_or, replicate, Result, Ok, Err, MatchResult, ◌⊎◌, inl, inr, refl, sym, ap, subst, ◌∙◌, arith, add-one}
use Rattle.std.specs.Prelude.{remove, slice_get, slice_set}
use Rattle.std.specs.Option.{unwrap_or}
use Rattle.std.proofs.lemmas.List.{length-append, length-set, take_all, take_at}
use Rattle.scenario_commands.specs.Marking.{AddsUnset, SetsOne, all_waiting}
use Rattle.scenario_commands.specs.Obeying.{was_given, with_given}
use Rattle.scenario_explain.specs.Noting.{NotesAll, NotesFront}

-- ---- their numbers rise

above : (n place : ℕ) (marks : List Bool) → place < length (all_waiting n marks) → n ≤ get_or (all_waiting n marks) place 0
above n place [] low = absurd (omega arith)
above n place (true ∷ marks) low = let h = above (n + 1) place marks low in omega (arith, h)
above n zero (false ∷ marks) low = omega arith
above n (suc place) (false ∷ marks) low = let h = above (n + 1) place marks (omega (arith, low)) in omega (arith, h)

rising : (n i j : ℕ) (marks : List Bool) → i ≤ j → j < length (all_waiting n marks) → get_or (all_waiting n marks) i 0 ≤ get_or (all_waiting n marks) j 0
rising n i j [] le low = absurd (omega arith)
rising n i j (true ∷ marks) le low = rising (n + 1) i j marks le low
rising n zero zero (false ∷ marks) le low = omega arith
rising n zero (suc j) (false ∷ marks) le low = let h = above (n + 1) j marks (omega (arith, low)) in omega (arith, h)
rising n (suc i) zero (false ∷ marks) le low = absurd (omega arith)
rising n (suc i) (suc j) (false ∷ marks) le low = rising (n + 1) i j marks (omega (arith, le)) (omega (arith, low))

pub rises : (frames : List ℕ) (marks : List Bool) → frames ≡ all_waiting 1 marks → (i j : ℕ) → i ≤ j → j < length frames → get_or frames i 0 ≤ get_or frames j 0
rises frames marks is i j le low =
    let low' : j < length (all_waiting 1 marks) = omega (arith, low, ap length is) in
    subst (λ (xs : List ℕ). get_or xs i 0 ≤ get_or xs j 0) (sym is) (rising 1 i j marks le low')

-- ---- one is given

set_shifted : (mark : Bool) (n f : ℕ) (marks : List Bool) → n + 1 ≤ f → slice_set (mark ∷ marks) (f - n) true ≡ mark ∷ slice_set marks (f - (n + 1)) true
set_shifted mark n f marks le =
    let e : f - n ≡ suc (f - (n + 1)) = omega arith in
    ap (λ k. slice_set (mark ∷ marks) k true) e

removed : (n place : ℕ) (marks : List Bool) → place < length (all_waiting n marks) → all_waiting n (slice_set marks (get_or (all_waiting n marks) place 0 - n) true) ≡ remove (all_waiting n marks) place
removed n place [] low = absurd (omega arith)
removed n place (true ∷ marks) low =
    let f = get_or (all_waiting (n + 1) marks) place 0 in
    let e = set_shifted true n f marks (above (n + 1) place marks low) in
    ap (all_waiting n) e ∙ removed (n + 1) place marks low
removed n zero (false ∷ marks) low =
    let e : n - n ≡ 0 = omega arith in
    ap (λ k. all_waiting n (slice_set (false ∷ marks) k true)) e
removed n (suc place) (false ∷ marks) low =
    let low' : place < length (all_waiting (n + 1) marks) = omega (arith, low) in
    let f = get_or (all_waiting (n + 1) marks) place 0 in
    let e = set_shifted false n f marks (above (n + 1) place marks low') in
    ap (all_waiting n) e ∙ ap (λ (xs : List ℕ). n ∷ xs) (removed (n + 1) place marks low')

split : (n m : ℕ) → n ≤ m → (n ≡ m) ⊎ (n + 1 ≤ m)
split zero zero le = inl refl
split zero (suc m) le = inr (omega arith)
split (suc n) zero le = absurd (omega arith)
split (suc n) (suc m) le = elim (split n m (omega arith)) [
  | inl same ↦ inl (ap suc same)
  | inr less ↦ inr (omega (arith, less))
]

below_or : (k n : ℕ) → (k < n) ⊎ (n ≤ k)
below_or k zero = inr (omega arith)
below_or zero (suc n) = inl (omega arith)
below_or (suc k) (suc n) = elim (below_or k n) [
  | inl less ↦ inl (omega (arith, less))
  | inr more ↦ inr (omega (arith, more))
]

untouched : (n frame : ℕ) (marks : List Bool) → n ≤ frame → ((k : ℕ) → k < length (all_waiting n marks) → get_or (all_waiting n marks) k 0 ≡ frame → ⊥)
    → all_waiting n (slice_set marks (frame - n) true) ≡ all_waiting n marks
untouched n frame [] le none = refl
untouched n frame (true ∷ marks) le none = elim (split n frame le) [
  | inl same ↦
      let e : frame - n ≡ 0 = omega (arith, same) in
      ap (λ k. all_waiting n (slice_set (true ∷ marks) k true)) e
  | inr less ↦
      ap (all_waiting n) (set_shifted true n frame marks less) ∙ untouched (n + 1) frame marks less none
]
untouched n frame (false ∷ marks) le none = elim (split n frame le) [
  | inl same ↦ absurd (none 0 (omega arith) same)
  | inr less ↦
      ap (all_waiting n) (set_shifted false n frame marks less)
      ∙ ap (λ (xs : List ℕ). n ∷ xs) (untouched (n + 1) frame marks less (λ k low is. none (suc k) (omega (arith, low)) is))
]

-- a number that a search has not found
absent : (frames : List ℕ) (frame place k : ℕ) → ((i : ℕ) → i < place → get_or frames i 0 < frame) → ((i : ℕ) → place ≤ i → i < length frames → frame < get_or frames i 0) → k < length frames → get_or frames k 0 ≡ frame → ⊥
absent frames frame place k less more low same = elim (below_or k place) [
  | inl before ↦ let h = less k before in absurd (omega (arith, h, same))
  | inr behind ↦ let h = more k behind low in absurd (omega (arith, h, same))
]

-- after a search, and the removal of what it found: the numbers that wait once the frame is given
pub dropped : (frames new : List ℕ) (frame : ℕ) (marks : List Bool) (found : Result ℕ ℕ) → MatchResult found (λ i. (i < length frames) × (get_or frames i 0 ≡ frame)) (λ i. (i ≤ length frames) × ((k : ℕ) → k < i → get_or frames k 0 < frame) × ((k : ℕ) → i ≤ k → k < length frames → frame < get_or frames k 0))
    → MatchResult found (λ i. new ≡ remove frames i) (λ i. new ≡ frames) → 1 ≤ frame → frames ≡ all_waiting 1 marks → new ≡ all_waiting 1 (with_given frame marks)
dropped frames new frame marks (Ok place) at removes some is =
    let low : place < length (all_waiting 1 marks) = omega (arith, at.0, ap length is) in
    let same : get_or (all_waiting 1 marks) place 0 ≡ frame = ap (λ (xs : List ℕ). get_or xs place 0) (sym is) ∙ at.1 in
    removes ∙ ap (λ (xs : List ℕ). remove xs place) is ∙ sym (removed 1 place marks low) ∙ ap (λ f. all_waiting 1 (slice_set marks (f - 1) true)) same
dropped frames new frame marks (Err place) at kept some is =
    kept ∙ is ∙ sym (untouched 1 frame marks some (λ k low same. absent frames frame place k at.1 at.2 (omega (arith, low, ap length is)) (ap (λ (xs : List ℕ). get_or xs k 0) is ∙ same)))

-- ---- what is noted

-- marks that were set already
set_there : (place sent : ℕ) (before : List Bool) → unwrap_or (slice_get (before ++ replicate sent false) place) false ≡ true → slice_set before place true ≡ before
set_there place sent [] was = refl
set_there zero sent (mark ∷ before) was = ap (λ m. m ∷ before) (sym was)
set_there (suc place) sent (mark ∷ before) was = ap (λ (marks : List Bool). mark ∷ marks) (set_there place sent before was)

-- or are none of those that are there
set_nowhere : (place : ℕ) (before rest : List Bool) → unwrap_or (slice_get (slice_set before place true ++ rest) place) false ≡ false → slice_set before place true ≡ before
set_nowhere place [] rest was = refl
set_nowhere zero (mark ∷ before) rest was = let no : true ≡ false = was in absurd (cc)
set_nowhere (suc place) (mark ∷ before) rest was = ap (λ (marks : List Bool). mark ∷ marks) (set_nowhere place before rest was)

-- a number has a mark at the place before
given_at : (place : ℕ) (marks : List Bool) → with_given (suc place) marks ≡ slice_set marks place true
given_at place marks = let e : suc place - 1 ≡ place = omega arith in ap (λ k. slice_set marks k true) e

set_already : (frame : ℕ) (before given : List Bool) → was_given frame given ≡ true → AddsUnset before given → SetsOne frame before given
set_already zero before given was adds = let no : false ≡ true = was in absurd (cc)
set_already (suc place) before given was adds =
    let same = set_there place adds.sent before (subst (λ (marks : List Bool). was_given (suc place) marks ≡ true) adds.new_is was) in
    let back : before ≡ with_given (suc place) before = sym (given_at place before ∙ same) in
    (omega arith, record { sent = adds.sent; new_is = adds.new_is ∙ ap (λ (marks : List Bool). marks ++ replicate adds.sent false) back })

set_none : (frame : ℕ) (before given : List Bool) → was_given frame given ≡ false → SetsOne frame before given → AddsUnset before given
set_none zero before given was sets = absurd (omega (arith, sets.0))
set_none (suc place) before given was sets =
    let adds = sets.1 in
    let rest : List Bool = replicate adds.sent false in
    let there : given ≡ slice_set before place true ++ rest = adds.new_is ∙ ap (λ (marks : List Bool). marks ++ rest) (given_at place before) in
    let same : with_given (suc place) before ≡ before = given_at place before ∙ set_nowhere place before rest (subst (λ (marks : List Bool). was_given (suc place) marks ≡ false) there was) in
    record { sent = adds.sent; new_is = adds.new_is ∙ ap (λ (marks : List Bool). marks ++ replicate adds.sent false) same }

front_of : (frames : List ℕ) (seen : ℕ) (marks given : List Bool) → seen ≡ length marks → frames ≡ all_waiting 1 marks → AddsUnset marks given → NotesFront frames seen given
front_of frames seen marks given seen_is is adds =
    let all : take seen given ≡ marks = ap (take seen) adds.new_is ∙ take_at marks (replicate adds.sent false) seen (sym seen_is) in
    record {
      within = omega (arith, seen_is, ap length adds.new_is ∙ length-append marks (replicate adds.sent false));
      frames_are = is ∙ ap (all_waiting 1) (sym all);
    }

-- no mark was set
front_kept : (frames : List ℕ) (seen : ℕ) (before given : List Bool) → NotesAll frames seen before → AddsUnset before given → NotesFront frames seen given
front_kept frames seen before given noted adds = front_of frames seen before given noted.all_seen noted.frames_are adds

-- a frame was delivered, and it was given then, or before
pub front_given : (frames new : List ℕ) (seen frame : ℕ) (before given : List Bool) → NotesAll frames seen before → was_given frame given ≡ true → SetsOne frame before given ⊎ AddsUnset before given
    → ((marks : List Bool) → 1 ≤ frame → frames ≡ all_waiting 1 marks → new ≡ all_waiting 1 (with_given frame marks)) → NotesFront new seen given
front_given frames new seen frame before given noted was (inl sets) drops =
    front_of new seen (with_given frame before) given (noted.all_seen ∙ sym (length-set before (frame - 1) true)) (drops before sets.0 noted.frames_are) sets.1
front_given frames new seen frame before given noted was (inr adds) drops =
    let sets = set_already frame before given was adds in
    front_of new seen (with_given frame before) given (noted.all_seen ∙ sym (length-set before (frame - 1) true)) (drops before sets.0 noted.frames_are) sets.1

-- it was not
pub front_not_given : (frames : List ℕ) (seen frame : ℕ) (before given : List Bool) → NotesAll frames seen before → was_given frame given ≡ false → SetsOne frame before given ⊎ AddsUnset before given → NotesFront frames seen given
front_not_given frames seen frame before given noted was (inl sets) = front_kept frames seen before given noted (set_none frame before given was sets)
front_not_given frames seen frame before given noted was (inr adds) = front_kept frames seen before given noted adds

pub all_noted : (frames : List ℕ) (seen : ℕ) (given : List Bool) → NotesFront frames seen given → seen ≡ length given → NotesAll frames seen given
all_noted frames seen given front all =
    record { all_seen = all; frames_are = front.frames_are ∙ ap (all_waiting 1) (take_all seen given (omega (arith, all))) }

-- ---- one more is looked at

one_given : (n place : ℕ) (marks : List Bool) → unwrap_or (slice_get marks place) false ≡ true → all_waiting n (take (suc place) marks) ≡ all_waiting n (take place marks)
one_given n place [] was = let no : false ≡ true = was in absurd (cc)
one_given n zero (true ∷ marks) was = refl
one_given n zero (false ∷ marks) was = let no : false ≡ true = was in absurd (cc)
one_given n (suc place) (true ∷ marks) was = one_given (n + 1) place marks was
one_given n (suc place) (false ∷ marks) was = ap (λ (xs : List ℕ). n ∷ xs) (one_given (n + 1) place marks was)

one_waits : (n place : ℕ) (marks : List Bool) → place < length marks → unwrap_or (slice_get marks place) false ≡ false → all_waiting n (take (suc place) marks) ≡ all_waiting n (take place marks) ++ (n + place) ∷ []
one_waits n place [] low was = absurd (omega arith)
one_waits n zero (true ∷ marks) low was = let no : true ≡ false = was in absurd (cc)
one_waits n zero (false ∷ marks) low was = let e : n ≡ n + 0 = omega arith in ap (λ k. k ∷ []) e
one_waits n (suc place) (true ∷ marks) low was =
    let e : (n + 1) + place ≡ n + suc place = omega arith in
    one_waits (n + 1) place marks (omega (arith, low)) was ∙ ap (λ k. all_waiting (n + 1) (take place marks) ++ k ∷ []) e
one_waits n (suc place) (false ∷ marks) low was =
    let e : (n + 1) + place ≡ n + suc place = omega arith in
    ap (λ (xs : List ℕ). n ∷ xs) (one_waits (n + 1) place marks (omega (arith, low)) was ∙ ap (λ k. all_waiting (n + 1) (take place marks) ++ k ∷ []) e)

pub more_given : (frames : List ℕ) (place : ℕ) (given : List Bool) → NotesFront frames place given → place < length given → was_given (place + 1) given ≡ true → NotesFront frames (place + 1) given
more_given frames place given front low was =
    let e : place + 1 ≡ suc place = add-one place in
    let was' : was_given (suc place) given ≡ true = subst (λ f. was_given f given ≡ true) e was in
    record {
      within = omega (arith, low);
      frames_are = front.frames_are ∙ sym (one_given 1 place given was') ∙ ap (λ k. all_waiting 1 (take k given)) (sym e);
    }

pub more_waits : (frames new : List ℕ) (place : ℕ) (given : List Bool) → NotesFront frames place given → place < length given → was_given (place + 1) given ≡ false → new ≡ frames ++ (place + 1) ∷ []
    → NotesFront new (place + 1) given
more_waits frames new place given front low was is =
    let e : place + 1 ≡ suc place = add-one place in
    let was' : was_given (suc place) given ≡ false = subst (λ f. was_given f given ≡ false) e was in
    let number : place + 1 ≡ 1 + place = omega arith in
    record {
      within = omega (arith, low);
      frames_are =
          is ∙ ap (λ (xs : List ℕ). xs ++ (place + 1) ∷ []) front.frames_are ∙ ap (λ k. all_waiting 1 (take place given) ++ k ∷ []) number
          ∙ sym (one_waits 1 place given low was') ∙ ap (λ k. all_waiting 1 (take k given)) (sym e);
    }
