-- Tests that hold of all older elements once they hold of one, over a list with the later first.
use Rattle.std.proofs.Common.{◌≡◌, ◌-◌, ◌≤◌, Bool, true, false, cond, suc, List, [], ◌∷◌, length, take, drop, ap, refl, arith, max, ⊎_elim}
use Rattle.std.specs.Prelude.{◌&&◌, ◌||◌, not, filter}
use Rattle.std.proofs.lemmas.Bool.{or_left, or_right, or_cases}

-- once P holds of an element, it holds of all after it
abbrev pub IsOlder : {X : Type 0} → (X → Bool) → List X → Type 0
IsOlder P [] = Unit {0}
IsOlder P (x ∷ xs) = (P x ≡ true → length (filter P xs) ≡ length xs) × IsOlder P xs

pub filter-le : {X : Type 0} (P : X → Bool) (xs : List X) → length (filter P xs) ≤ length xs
filter-le P [] = omega arith
filter-le P (x ∷ xs) =
    elim (P x) as (λ b. length (cond b (x ∷ filter P xs) (filter P xs)) ≤ length (x ∷ xs)) [
      | true ↦ omega (arith, filter-le P xs)
      | false ↦ omega (arith, filter-le P xs)
    ]

-- a larger test keeps more
pub filter-mono : {X : Type 0} (P Q : X → Bool) → ((x : X) → P x ≡ true → Q x ≡ true) → (xs : List X) → length (filter P xs) ≤ length (filter Q xs)
filter-mono P Q sub [] = omega arith
filter-mono P Q sub (x ∷ xs) =
    elim (P x) as (λ b. P x ≡ b → length (cond b (x ∷ filter P xs) (filter P xs)) ≤ length (cond (Q x) (x ∷ filter Q xs) (filter Q xs))) [
      | true ↦ λ e. rw (sub x e) (omega (arith, filter-mono P Q sub xs))
      | false ↦ λ e. elim (Q x) as (λ c. length (filter P xs) ≤ length (cond c (x ∷ filter Q xs) (filter Q xs))) [
        | true ↦ omega (arith, filter-mono P Q sub xs)
        | false ↦ filter-mono P Q sub xs
      ]
    ] refl

-- what keeps all keeps the list
pub filter-full : {X : Type 0} (P : X → Bool) (xs : List X) → length (filter P xs) ≡ length xs → filter P xs ≡ xs
filter-full P [] full = refl
filter-full P (x ∷ xs) full =
    elim (P x) as (λ b. length (cond b (x ∷ filter P xs) (filter P xs)) ≡ length (x ∷ xs) → cond b (x ∷ filter P xs) (filter P xs) ≡ x ∷ xs) [
      | true ↦ λ full. ap (λ l. x ∷ l) (filter-full P xs (omega arith))
      | false ↦ λ full. absurd (omega (arith, filter-le P xs))
    ]
    full

-- what an older test keeps is the end of the list
pub filter-older : {X : Type 0} (P : X → Bool) (xs : List X) → IsOlder P xs → filter P xs ≡ drop (length xs - length (filter P xs)) xs
filter-older P [] older = refl
filter-older P (x ∷ xs) older =
    elim (P x) as (λ b. P x ≡ b → cond b (x ∷ filter P xs) (filter P xs) ≡ drop (length (x ∷ xs) - length (cond b (x ∷ filter P xs) (filter P xs))) (x ∷ xs)) [
      | true ↦ λ e.
          let full : length (filter P xs) ≡ length xs = older.0 e in
          let none : length (x ∷ xs) - length (x ∷ filter P xs) ≡ 0 = omega arith in
          rw none (ap (λ l. x ∷ l) (filter-full P xs full))
      | false ↦ λ e.
          let le : length (filter P xs) ≤ length xs = filter-le P xs in
          let one : length (x ∷ xs) - length (filter P xs) ≡ suc (length xs - length (filter P xs)) = omega arith in
          rw one (filter-older P xs older.1)
    ] refl

-- an older test within another: what passes the larger alone is the start of what passes it
pub filter-between : {X : Type 0} (P Q : X → Bool) → ((x : X) → Q x ≡ true → P x ≡ true) → (xs : List X) → IsOlder P xs → IsOlder Q xs → filter (λ x. P x && not (Q x)) xs ≡ take (length (filter P xs) - length (filter Q xs)) (filter P xs)
filter-between P Q sub [] p q = refl
filter-between P Q sub (x ∷ xs) p q =
    let more : length (filter Q xs) ≤ length (filter P xs) = filter-mono Q P sub xs in
    let inner : filter (λ x. P x && not (Q x)) xs ≡ take (length (filter P xs) - length (filter Q xs)) (filter P xs) = filter-between P Q sub xs p.1 q.1 in
    elim (Q x) as (λ b. Q x ≡ b → cond (P x && not b) (x ∷ filter (λ x. P x && not (Q x)) xs) (filter (λ x. P x && not (Q x)) xs) ≡ take (length (cond (P x) (x ∷ filter P xs) (filter P xs)) - length (cond b (x ∷ filter Q xs) (filter Q xs))) (cond (P x) (x ∷ filter P xs) (filter P xs))) [
      | true ↦ λ e.
          let full : length (filter Q xs) ≡ length xs = q.0 e in
          let le : length (filter P xs) ≤ length xs = filter-le P xs in
          let same : length (filter P xs) - length (filter Q xs) ≡ 0 = omega arith in
          let none : length (x ∷ filter P xs) - length (x ∷ filter Q xs) ≡ 0 = omega arith in
          rw (sub x e, none) (rw same at inner)
      | false ↦ λ e. elim (P x) as (λ c. cond (c && true) (x ∷ filter (λ x. P x && not (Q x)) xs) (filter (λ x. P x && not (Q x)) xs) ≡ take (length (cond c (x ∷ filter P xs) (filter P xs)) - length (filter Q xs)) (cond c (x ∷ filter P xs) (filter P xs))) [
        | true ↦
            let one : length (x ∷ filter P xs) - length (filter Q xs) ≡ suc (length (filter P xs) - length (filter Q xs)) = omega arith in
            rw one (ap (λ l. x ∷ l) inner)
        | false ↦ inner
      ]
    ] refl

-- of two older tests the union is as long as the longer
pub filter-union : {X : Type 0} (P Q : X → Bool) (xs : List X) → IsOlder P xs → IsOlder Q xs → length (filter (λ x. P x || Q x) xs) ≡ max (length (filter P xs)) (length (filter Q xs))
filter-union P Q [] p q = refl
filter-union P Q (x ∷ xs) p q =
    let left : length (filter P xs) ≤ length (filter (λ x. P x || Q x) xs) = filter-mono P (λ x. P x || Q x) (λ x e. or_left (P x) (Q x) e) xs in
    let right : length (filter Q xs) ≤ length (filter (λ x. P x || Q x) xs) = filter-mono Q (λ x. P x || Q x) (λ x e. or_right (P x) (Q x) e) xs in
    let all : length (filter (λ x. P x || Q x) xs) ≤ length xs = filter-le (λ x. P x || Q x) xs in
    let here : length (filter P xs) ≤ length xs = filter-le P xs in
    let there : length (filter Q xs) ≤ length xs = filter-le Q xs in
    let inner : length (filter (λ x. P x || Q x) xs) ≡ max (length (filter P xs)) (length (filter Q xs)) = filter-union P Q xs p.1 q.1 in
    elim (P x) as (λ b. P x ≡ b → length (cond (b || Q x) (x ∷ filter (λ x. P x || Q x) xs) (filter (λ x. P x || Q x) xs)) ≡ max (length (cond b (x ∷ filter P xs) (filter P xs))) (length (cond (Q x) (x ∷ filter Q xs) (filter Q xs)))) [
      | true ↦ λ e.
          let full : length (filter P xs) ≡ length xs = p.0 e in
          elim (Q x) as (λ c. suc (length (filter (λ x. P x || Q x) xs)) ≡ max (suc (length (filter P xs))) (length (cond c (x ∷ filter Q xs) (filter Q xs)))) [ true ↦ omega arith | false ↦ omega arith ]
      | false ↦ λ e. elim (Q x) as (λ c. Q x ≡ c → length (cond c (x ∷ filter (λ x. P x || Q x) xs) (filter (λ x. P x || Q x) xs)) ≡ max (length (filter P xs)) (length (cond c (x ∷ filter Q xs) (filter Q xs)))) [
        | true ↦ λ f.
            let full : length (filter Q xs) ≡ length xs = q.0 f in omega arith
        | false ↦ λ f. inner
      ] refl
    ] refl

-- the union of two older tests is older
pub IsOlder-union : {X : Type 0} (P Q : X → Bool) (xs : List X) → IsOlder P xs → IsOlder Q xs → IsOlder (λ x. P x || Q x) xs
IsOlder-union P Q [] p q = tt
IsOlder-union P Q (x ∷ xs) p q = (
  λ e.
      let left : length (filter P xs) ≤ length (filter (λ x. P x || Q x) xs) = filter-mono P (λ x. P x || Q x) (λ x e. or_left (P x) (Q x) e) xs in
      let right : length (filter Q xs) ≤ length (filter (λ x. P x || Q x) xs) = filter-mono Q (λ x. P x || Q x) (λ x e. or_right (P x) (Q x) e) xs in
      let all : length (filter (λ x. P x || Q x) xs) ≤ length xs = filter-le (λ x. P x || Q x) xs in
      ⊎_elim (λ h. let full : length (filter P xs) ≡ length xs = p.0 h in omega arith)
      (λ h. let full : length (filter Q xs) ≡ length xs = q.0 h in omega arith)
      (or_cases (P x) (Q x) e),
  IsOlder-union P Q xs p.1 q.1,
)
