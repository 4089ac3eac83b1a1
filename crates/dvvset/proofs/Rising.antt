use Rattle.std.proofs.Common.{◌≡◌, ℕ, ◌+◌, ◌<◌, ◌≤◌, ◌↔◌, List, [], ◌∷◌, length, drop, get_or, map, All, suc, sym, ap, subst, ◌∙◌, arith, add-one, drop-cons}
use Rattle.std.proofs.lemmas.List.Elements.{All-cons, All-head, All-tail, All-nil}
use Rattle.std.proofs.Math.ListN.{drop_of_length-le}
use Rattle.dvvset.specs.Object.{RisesFrom}

-- the list from a place on, by the element that stands there
pub drop_is : {X : Type 0} (xs : List X) (i : ℕ) (x : X) → i < length xs → x ≡ get_or xs i x → drop i xs ≡ x ∷ drop (i + 1) xs
drop_is xs i x lt is = rw add-one (drop-cons xs i x lt ∙ ap (λ y. y ∷ drop (suc i) xs) (sym is))

-- ids that rise and are below `most` are few
pub RisesFrom-length : (ns : List ℕ) (low most : ℕ) → low ≤ most → RisesFrom low ns → All (λ n. n < most) ns → length ns + low ≤ most
RisesFrom-length [] low most le rises all = omega arith
RisesFrom-length (n ∷ ns) low most le rises all =
    let below : n < most = All-head (λ k. k < most) n ns all in
    let rest : length ns + (n + 1) ≤ most = RisesFrom-length ns (n + 1) most (omega arith) rises.1 (All-tail (λ k. k < most) n ns all) in
    omega (arith, rises.0)

-- what is left of a list whose ids rise from `low` on, and whose elements are lawful
pub record Rest {X : Type 0} (id : X → ℕ) (P : X → Type 0) (low : ℕ) (xs : List X) : Type 0 where
  pub rising : RisesFrom low (map id xs)
  pub lawful : All P xs

pub Rest-nil : {X : Type 0} (id : X → ℕ) (P : X → Type 0) (low : ℕ) → Rest id P low []
Rest-nil id P low = record { rising = tt; lawful = All-nil P }

pub Rest-cons : {X : Type 0} (id : X → ℕ) (P : X → Type 0) (low : ℕ) (x : X) (xs : List X) → low ≤ id x → P x → Rest id P (id x + 1) xs → Rest id P low (x ∷ xs)
Rest-cons id P low x xs le p rest = record { rising = (le, rest.rising); lawful = All-cons P x xs p rest.lawful }

pub Rest-tail : {X : Type 0} (id : X → ℕ) (P : X → Type 0) (low : ℕ) (x : X) (xs : List X) → Rest id P low (x ∷ xs) → Rest id P (id x + 1) xs
Rest-tail id P low x xs rest = record { rising = rest.rising.1; lawful = All-tail P x xs rest.lawful }

-- the test so far: what is left is lawful exactly if the whole list is
pub record Tested {X : Type 0} (id : X → ℕ) (P : X → Type 0) (xs : List X) (i low : ℕ) : Type 0 where
  pub same : Rest id P low (drop i xs) ↔ Rest id P 0 xs

-- an element that passes; `n` is its id
pub Tested-next : {X : Type 0} (id : X → ℕ) (P : X → Type 0) (xs : List X) (i low n : ℕ) (x : X) → Tested id P xs i low → i < length xs → x ≡ get_or xs i x → n ≡ id x → low ≤ n → P x → Tested id P xs (i + 1) (n + 1)
Tested-next id P xs i low n x t lt is same le p =
    let e = drop_is xs i x lt is in
    let le' : low ≤ id x = omega arith in
    let after : n + 1 ≡ id x + 1 = ap (λ m. m + 1) same in
    subst (λ m. Tested id P xs (i + 1) m) (sym after)
    (record {
      same = (
        (λ rest. t.same.0 (subst (λ ys. Rest id P low ys) (sym e) (Rest-cons id P low x (drop (i + 1) xs) le' p rest))),
        (λ all. Rest-tail id P low x (drop (i + 1) xs) (subst (λ ys. Rest id P low ys) e (t.same.1 all))),
      );
    })

-- a test that went through
pub Tested-end : {X : Type 0} (id : X → ℕ) (P : X → Type 0) (xs : List X) (i low : ℕ) → Tested id P xs i low → length xs ≤ i → Rest id P 0 xs
Tested-end id P xs i low t le = t.same.0 (subst (λ ys. Rest id P low ys) (sym (drop_of_length-le xs le)) (Rest-nil id P low))
