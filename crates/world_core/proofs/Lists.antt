-- Lists side by side, and lists with more behind them.
use Rattle.std.proofs.Common.{◌≡◌, ◌⊎◌, ℕ, zero, suc, ◌+◌, ◌-◌, ◌<◌, ◌≤◌, List, [], ◌∷◌, ◌++◌, length, get_or, map, take, drop, Some, None, refl, sym, ap, subst, ◌∙◌, arith, inl, inr}
use Rattle.std.specs.Prelude.{slice_get}
use Rattle.std.specs.List.{range_with_len}
use Rattle.std.proofs.lemmas.List.{drop-append-le, get_or-drop, length-drop, take-append-le, take_more}
use Rattle.std.proofs.lemmas.List.FromFn.{map-range_with_len_more}
use Rattle.std.proofs.lemmas.Option.{slice_get_past}
use Rattle.std.proofs.Math.Seq.{drop-append_seam, take-length}
use Rattle.world_core.specs.declared.answer.FrameNumbers.{FrameNumbers}
use Rattle.world_core.specs.Numbers.{frames_at, numbered}
use Rattle.world_core.specs.Tells.{Pairwise}

-- ---- lists side by side

pub pairwise_snoc : {A B : Type 0} (P : A → B → Type 0) (xs : List A) (ys : List B) (x : A) (y : B) → Pairwise P xs ys → P x y → Pairwise P (xs ++ x ∷ []) (ys ++ y ∷ [])
pairwise_snoc P [] [] x y all p = (p, tt)
pairwise_snoc P [] (b ∷ ys) x y all p = absurd all
pairwise_snoc P (a ∷ xs) [] x y all p = absurd all
pairwise_snoc P (a ∷ xs) (b ∷ ys) x y all p = (all.0, pairwise_snoc P xs ys x y all.1 p)

pub pairwise_map : {A B : Type 0} (P Q : A → B → Type 0) → ((x : A) (y : B) → P x y → Q x y) → (xs : List A) (ys : List B) → Pairwise P xs ys → Pairwise Q xs ys
pairwise_map P Q f [] [] all = tt
pairwise_map P Q f [] (y ∷ ys) all = absurd all
pairwise_map P Q f (x ∷ xs) [] all = absurd all
pairwise_map P Q f (x ∷ xs) (y ∷ ys) all = (f x y all.0, pairwise_map P Q f xs ys all.1)

-- what stands at a place of one stands with what stands at that place of the other
pub pair_first : {A B : Type 0} (P : A → B → Type 0) (xs : List A) (ys : List B) → Pairwise P xs ys → (at : ℕ) (y : B) → slice_get ys at ≡ Some y → (x : A) × ((slice_get xs at ≡ Some x) × P x y)
pair_first P [] [] all at y e = cc
pair_first P [] (b ∷ ys) all at y e = absurd all
pair_first P (a ∷ xs) [] all at y e = absurd all
pair_first P (a ∷ xs) (b ∷ ys) all zero y e =
    let is : b ≡ y = cc in
    (a, (refl, subst (P a) is all.0))
pair_first P (a ∷ xs) (b ∷ ys) all (suc at) y e = pair_first P xs ys all.1 at y e

pub pair_second : {A B : Type 0} (P : A → B → Type 0) (xs : List A) (ys : List B) → Pairwise P xs ys → (at : ℕ) (x : A) → slice_get xs at ≡ Some x → (y : B) × ((slice_get ys at ≡ Some y) × P x y)
pair_second P [] [] all at x e = cc
pair_second P [] (b ∷ ys) all at x e = absurd all
pair_second P (a ∷ xs) [] all at x e = absurd all
pair_second P (a ∷ xs) (b ∷ ys) all zero x e =
    let is : a ≡ x = cc in
    (b, (refl, subst (λ c. P c b) is all.0))
pair_second P (a ∷ xs) (b ∷ ys) all (suc at) x e = pair_second P xs ys all.1 at x e

pub pair_length : {A B : Type 0} (P : A → B → Type 0) (xs : List A) (ys : List B) → Pairwise P xs ys → length xs ≡ length ys
pair_length P [] [] all = refl
pair_length P [] (b ∷ ys) all = absurd all
pair_length P (a ∷ xs) [] all = absurd all
pair_length P (a ∷ xs) (b ∷ ys) all = ap suc (pair_length P xs ys all.1)

pub pairwise_append : {A B : Type 0} (P : A → B → Type 0) (xs more : List A) (ys others : List B) → Pairwise P xs ys → Pairwise P more others
    → Pairwise P (xs ++ more) (ys ++ others)
pairwise_append P [] more [] others all rest = rest
pairwise_append P [] more (b ∷ ys) others all rest = absurd all
pairwise_append P (a ∷ xs) more [] others all rest = absurd all
pairwise_append P (a ∷ xs) more (b ∷ ys) others all rest = (all.0, pairwise_append P xs more ys others all.1 rest)

-- if the relation determines the left one, one list stands beside the right one
pub pairwise_one : {A B : Type 0} (P : A → B → Type 0) → ((x y : A) (b : B) → P x b → P y b → x ≡ y) → (xs ys : List A) (bs : List B)
    → Pairwise P xs bs → Pairwise P ys bs → xs ≡ ys
pairwise_one P one [] [] [] all others = refl
pairwise_one P one [] (y ∷ ys) [] all others = absurd others
pairwise_one P one (x ∷ xs) ys [] all others = absurd all
pairwise_one P one [] ys (b ∷ bs) all others = absurd all
pairwise_one P one (x ∷ xs) [] (b ∷ bs) all others = absurd others
pairwise_one P one (x ∷ xs) (y ∷ ys) (b ∷ bs) all others =
    λ i. one x y b all.0 others.0 i ∷ pairwise_one P one xs ys bs all.1 others.1 i

-- ---- lists with more behind them

-- what stands last
pub slice_get_end : {A : Type 0} (xs : List A) (x : A) → slice_get (xs ++ x ∷ []) (length xs) ≡ Some x
slice_get_end [] x = refl
slice_get_end (y ∷ xs) x = slice_get_end xs x

-- what stands in a list stands there too if more follows
pub slice_get_more : {X : Type 0} (frames more : List X) (at : ℕ) → at < length frames → slice_get (frames ++ more) at ≡ slice_get frames at
slice_get_more [] more at low = absurd (let no : at < 0 = low in omega (arith, no))
slice_get_more (frame ∷ frames) more zero low = refl
slice_get_more (frame ∷ frames) more (suc at) low = slice_get_more frames more at (omega (arith, low))

pub numbered_more : {X : Type 0} (frames more : List X) (number : ℕ) → number ≤ length frames → numbered (frames ++ more) number ≡ numbered frames number
numbered_more frames more zero low = refl
numbered_more frames more (suc before) low = slice_get_more frames more before (omega (arith, low))

-- a number from 1 names what stands one place before
pub numbered_at : {A : Type 0} (xs : List A) (number place : ℕ) → number ≡ place + 1 → numbered xs number ≡ slice_get xs place
numbered_at xs zero place e = absurd (omega (arith, e))
numbered_at xs (suc before) place e = ap (slice_get xs) (let same : before ≡ place = omega (arith, e) in same)

-- a number of none names nothing
pub numbered_past : {A : Type 0} (xs : List A) (number : ℕ) → (number < 1) ⊎ (length xs < number) → numbered xs number ≡ None
numbered_past xs zero past = refl
numbered_past xs (suc before) (inl low) = absurd (omega (arith, low))
numbered_past xs (suc before) (inr high) = slice_get_past xs before (let past : length xs ≤ before = omega (arith, high) in past)

-- ---- those of some numbers

pub frames_at_more : {A : Type 0} (numbers : FrameNumbers) (frames more : List A) → (numbers.first - 1) + numbers.count ≤ length frames
    → frames_at numbers (frames ++ more) ≡ frames_at numbers frames
frames_at_more numbers frames more within =
    let from : numbers.first - 1 ≤ length frames = omega (arith, within) in
    let left : length (drop (numbers.first - 1) frames) ≡ length frames - (numbers.first - 1) = length-drop (numbers.first - 1) frames in
    let enough : numbers.count ≤ length (drop (numbers.first - 1) frames) = omega (arith, within, left) in
    ap (take numbers.count) (drop-append-le (numbers.first - 1) frames more from)
    ∙ take-append-le numbers.count (drop (numbers.first - 1) frames) more enough

-- those that come last
pub frames_at_end : {A : Type 0} (numbers : FrameNumbers) (frames more : List A) → numbers ≡ record { first = length frames + 1; count = length more }
    → frames_at numbers (frames ++ more) ≡ more
frames_at_end numbers frames more is =
    let from : length frames + 1 - 1 ≡ length frames = omega arith in
    ap (λ n. frames_at n (frames ++ more)) is
    ∙ ap (λ n. take (length more) (drop n (frames ++ more))) from
    ∙ ap (take (length more)) (drop-append_seam frames more)
    ∙ take-length more

-- so many from a place on, and then one more
pub part_more : {A : Type 0} (first place : ℕ) (xs : List A) (x d : A) → first ≤ place → place < length xs → x ≡ get_or xs place d
    → take (place + 1 - first) (drop first xs) ≡ take (place - first) (drop first xs) ++ x ∷ []
part_more {A = A} first place xs x d low high is =
    let rest : List A = drop first xs in
    let long : length rest ≡ length xs - first = length-drop first xs in
    let here : place - first < length rest = omega (arith, low, high, long) in
    ap (λ n. take n rest) (let e : place + 1 - first ≡ place - first + 1 = omega (arith, low) in e)
    ∙ take_more rest (place - first) d here
    ∙ ap (λ y. take (place - first) rest ++ y ∷ []) (get_or-drop first xs (place - first) d ∙ ap (λ n. get_or xs n d) (let e : first + (place - first) ≡ place = omega (arith, low) in e) ∙ sym is)

-- ---- lists that are made one by one

pub pushed : {A : Type 0} (f : ℕ → A) (n : ℕ) (xs new : List A) (x : A) → xs ≡ map f (range_with_len 0 n) → new ≡ xs ++ x ∷ [] → x ≡ f n
    → new ≡ map f (range_with_len 0 (n + 1))
pushed f n xs new x so_far added is =
    added ∙ ap (λ ys. ys ++ x ∷ []) so_far ∙ ap (λ y. map f (range_with_len 0 n) ++ y ∷ []) is ∙ sym (map-range_with_len_more f 0 n n (omega arith))
