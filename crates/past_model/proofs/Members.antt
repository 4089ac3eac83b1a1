-- Members of lists of writes, and tests over them.
use Rattle.std.proofs.Common.{◌≡◌, ◌<◌, ◌≤◌, Bool, true, false, cond, suc, List, [], ◌∷◌, length, sym, ap, refl, ◌∙◌, arith, ⊎_elim, inl, inr}
use Rattle.std.specs.Prelude.{◌&&◌, ◌||◌, filter}
use Rattle.std.specs.List.{list_any}
use Rattle.std.proofs.lemmas.Bool.{false≢true, or_left, or_right, or_cases}
use Rattle.past_model.specs.Past.{Write, In}
use Rattle.past_model.proofs.Orderly.{IsFalling}
use Rattle.past_model.proofs.Older.{IsOlder, filter-le}

-- ---- `list_any` by a member

pub any_gives : (f : Write → Bool) (ws : List Write) → list_any f ws ≡ true → (x : Write) × (In x ws × (f x ≡ true))
any_gives f [] e = absurd (cc)
any_gives f (x ∷ xs) e =
    ⊎_elim (λ h. (x, (inl refl, h)))
    (λ h. let found : (x : Write) × (In x xs × (f x ≡ true)) = any_gives f xs h in (found.0, (inr found.1.0, found.1.1)))
    (or_cases (f x) (list_any f xs) e)

pub any_from : (f : Write → Bool) (ws : List Write) (x : Write) → In x ws → f x ≡ true → list_any f ws ≡ true
any_from f [] x m e = absurd m
any_from f (y ∷ ys) x m e =
    ⊎_elim (λ same. or_left (f y) (list_any f ys) (ap f (sym same) ∙ e)) (λ later. or_right (f y) (list_any f ys) (any_from f ys x later e)) m

-- tests that agree on the members
pub any-cong : (f g : Write → Bool) (ws : List Write) → ((y : Write) → In y ws → f y ≡ g y) → list_any f ws ≡ list_any g ws
any-cong f g [] same = refl
any-cong f g (x ∷ xs) same = λ i. same x (inl refl) i || any-cong f g xs (λ y m. same y (inr m)) i

-- ---- `filter` by a member

pub filter-cong : (P Q : Write → Bool) (ws : List Write) → ((y : Write) → In y ws → P y ≡ Q y) → filter P ws ≡ filter Q ws
filter-cong P Q [] same = refl
filter-cong P Q (x ∷ xs) same =
    λ i. cond (same x (inl refl) i) (x ∷ filter-cong P Q xs (λ y m. same y (inr m)) i) (filter-cong P Q xs (λ y m. same y (inr m)) i)

-- two filters are one
pub filter-filter : (P M : Write → Bool) (ws : List Write) → filter P (filter M ws) ≡ filter (λ x. M x && P x) ws
filter-filter P M [] = refl
filter-filter P M (x ∷ xs) =
    elim (M x) as (λ b. filter P (cond b (x ∷ filter M xs) (filter M xs)) ≡ cond (b && P x) (x ∷ filter (λ x. M x && P x) xs) (filter (λ x. M x && P x) xs)) [
      | true ↦ ap (λ l. cond (P x) (x ∷ l) l) (filter-filter P M xs)
      | false ↦ filter-filter P M xs
    ]

pub in_filter : (M : Write → Bool) (ws : List Write) (y : Write) → In y ws → M y ≡ true → In y (filter M ws)
in_filter M [] y m e = absurd m
in_filter M (x ∷ xs) y m e =
    elim (M x) as (λ b. M x ≡ b → In y (cond b (x ∷ filter M xs) (filter M xs))) [
      | true ↦ λ f. ⊎_elim (λ here. inl here) (λ later. inr (in_filter M xs y later e)) m
      | false ↦ λ f. ⊎_elim (λ here. absurd (false≢true (sym f ∙ ap M (sym here) ∙ e))) (λ later. in_filter M xs y later e) m
    ] refl

pub of_filter : (M : Write → Bool) (ws : List Write) (y : Write) → In y (filter M ws) → In y ws × (M y ≡ true)
of_filter M [] y m = absurd m
of_filter M (x ∷ xs) y m =
    let more : In y (filter M xs) → In y (x ∷ xs) × (M y ≡ true) = λ later.
    let found : In y xs × (M y ≡ true) = of_filter M xs y later in (inr found.0, found.1) in
    elim (M x) as (λ b. M x ≡ b → In y (cond b (x ∷ filter M xs) (filter M xs)) → In y (x ∷ xs) × (M y ≡ true)) [
      | true ↦ λ f n. ⊎_elim (λ here. (inl here, ap M here ∙ f)) (λ later. more later) n
      | false ↦ λ f n. more n
    ] refl m

-- a list with a member has a length
pub member_counts : (ws : List Write) (y : Write) → In y ws → 1 ≤ length ws
member_counts [] y m = absurd m
member_counts (x ∷ xs) y m = omega arith

-- a list with a length has a member
pub counted_member : (ws : List Write) → 1 ≤ length ws → (y : Write) × In y ws
counted_member [] le = absurd (omega arith)
counted_member (x ∷ xs) le = (x, inl refl)

-- ---- older tests

-- a test that passes each member that M passes keeps them all
pub all_kept : (R M : Write → Bool) (xs : List Write) → ((x : Write) → In x xs → M x ≡ true → R x ≡ true) → length (filter R (filter M xs)) ≡ length (filter M xs)
all_kept R M [] all = refl
all_kept R M (x ∷ xs) all =
    elim (M x) as (λ b. M x ≡ b → length (filter R (cond b (x ∷ filter M xs) (filter M xs))) ≡ length (cond b (x ∷ filter M xs) (filter M xs))) [
      | true ↦ λ e. rw (all x (inl refl) e) (ap suc (all_kept R M xs (λ y m. all y (inr m))))
      | false ↦ λ e. all_kept R M xs (λ y m. all y (inr m))
    ] refl

-- a test that leads from each write to the earlier ones is older
pub older_from : (R M : Write → Bool) (xs : List Write) → IsFalling xs → ((x y : Write) → In x xs → In y xs → M x ≡ true → M y ≡ true → y.place < x.place → R x ≡ true → R y ≡ true) → IsOlder R (filter M xs)
older_from R M [] falling back = tt
older_from R M (x ∷ xs) falling back =
    elim (M x) as (λ b. M x ≡ b → IsOlder R (cond b (x ∷ filter M xs) (filter M xs))) [
      | true ↦ λ e. (
        λ r. all_kept R M xs (λ y m f. back x y (inl refl) (inr m) e f (falling.0.all y m) r),
        older_from R M xs falling.1 (λ y z m n. back y z (inr m) (inr n)),
      )
      | false ↦ λ e. older_from R M xs falling.1 (λ y z m n. back y z (inr m) (inr n))
    ] refl

-- if all are kept each passes
pub full_all : (Q : Write → Bool) (xs : List Write) (y : Write) → length (filter Q xs) ≡ length xs → In y xs → Q y ≡ true
full_all Q [] y full m = absurd m
full_all Q (x ∷ xs) y full m =
    elim (Q x) as (λ b. Q x ≡ b → length (cond b (x ∷ filter Q xs) (filter Q xs)) ≡ length (x ∷ xs) → Q y ≡ true) [
      | true ↦ λ e h. ⊎_elim (λ here. ap Q here ∙ e) (λ later. full_all Q xs y (omega arith) later) m
      | false ↦ λ e h. absurd (omega (arith, filter-le Q xs))
    ] refl full

-- of two older tests the one that keeps fewer is within the other
pub older_sub : (P Q : Write → Bool) (xs : List Write) (y : Write) → IsOlder P xs → IsOlder Q xs → length (filter P xs) ≤ length (filter Q xs) → In y xs → P y ≡ true → Q y ≡ true
older_sub P Q [] y p q le m e = absurd m
older_sub P Q (x ∷ xs) y p q le m e =
    let few : length (filter Q xs) ≤ length xs = filter-le Q xs in
    elim (Q x) as (λ c. Q x ≡ c → length (cond (P x) (x ∷ filter P xs) (filter P xs)) ≤ length (cond c (x ∷ filter Q xs) (filter Q xs)) → Q y ≡ true) [
      | true ↦ λ f le. ⊎_elim (λ here. ap Q here ∙ f) (λ later. full_all Q xs y (q.0 f) later) m
      | false ↦ λ f. elim (P x) as (λ b. P x ≡ b → length (cond b (x ∷ filter P xs) (filter P xs)) ≤ length (filter Q xs) → Q y ≡ true) [
        | true ↦ λ g le. let all : length (filter P xs) ≡ length xs = p.0 g in absurd (omega arith)
        | false ↦ λ g le. ⊎_elim (λ here. absurd (false≢true (sym g ∙ ap P (sym here) ∙ e))) (λ later. older_sub P Q xs y p.1 q.1 le later e) m
      ] refl
    ] refl le

-- ---- places

-- at one place stands one write
pub same_place : (ws : List Write) (x q : Write) → IsFalling ws → In x ws → In q ws → x.place ≡ q.place → q ≡ x
same_place [] x q falling m n e = absurd m
same_place (y ∷ ys) x q falling m n e =
    ⊎_elim
    (λ here. ⊎_elim (λ there. there ∙ sym here)
    (λ later.
    let low : q.place < y.place = falling.0.all q later in
    let top : x.place ≡ y.place = ap (λ z. z.place) here in
    absurd (omega arith)) n)
    (λ later. ⊎_elim
    (λ there.
    let low : x.place < y.place = falling.0.all x later in
    let top : q.place ≡ y.place = ap (λ z. z.place) there in
    absurd (omega arith))
    (λ also. same_place ys x q falling.1 later also e) n)
    m
