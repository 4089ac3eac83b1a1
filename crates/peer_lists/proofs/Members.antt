-- Membership, length and order of the lists after one change.
use Rattle.std.proofs.Common.{◌≡◌, ◌≢◌, All, ℕ, ◌+◌, ◌%◌, ◌<◌, ◌≤◌, Bool, true, false, cond, not, ◌||◌, List, [], ◌∷◌, ◌++◌, length, nat_eq, ⊎_elim, refl, sym, ap, ◌∙◌, subst, true≢false, arith, length-append}
use Rattle.std.specs.List.{AllByRecursion, IsDistinct}
use Rattle.std.proofs.lemmas.List.Folds.{list_any-append, list_any_at}
use Rattle.std.proofs.lemmas.Map.Made.{length-remove_key}
use Rattle.std.proofs.lemmas.Map.Keys.{IsDistinct-head, IsDistinct-tail, IsDistinct-cons, IsDistinct-push}
use Rattle.std.proofs.lemmas.Bool.{eq-eqb, ne_eqb, eqb-true, eqb-false, or_parts, cases_Bool, cond_both}
use Rattle.std.proofs.lemmas.List.Elements.{All-nil, All-cons}
use Rattle.std.proofs.Math.Bool.{or-false}
use Rattle.std.specs.Cmp.{IsEquivalence}
use Rattle.peer_lists.specs.Lists.{has, without, put_last, choose, without_all}

pub or_right : (a b : Bool) → b ≡ true → (a || b) ≡ true
or_right a b h = elim a as (λ v. (v || b) ≡ true) [ true ↦ refl | false ↦ h ]

or_more : (a b c : Bool) → (b ≡ true → c ≡ true) → (a || b) ≡ true → (a || c) ≡ true
or_more a b c f h = (elim a as (λ v. (v || b) ≡ true → (v || c) ≡ true) [ true ↦ λ _. refl | false ↦ f ]) h

-- what holds of the smaller holds of the larger, so what the larger lacks the smaller lacks
pub lacks_too : (a b : Bool) → (a ≡ true → b ≡ true) → b ≡ false → a ≡ false
lacks_too a b f h = (elim a as (λ v. (v ≡ true → b ≡ true) → v ≡ false) [ true ↦ λ g. absurd (true≢false (sym (g refl) ∙ h)) | false ↦ λ _. refl ]) f

pub has-self : (x : ℕ) → nat_eq x x ≡ true
has-self x = eq-eqb x x refl

pub nat_eq-swap : (x y : ℕ) → nat_eq x y ≡ nat_eq y x
nat_eq-swap x y =
    (elim (nat_eq y x) as (λ b. nat_eq y x ≡ b → nat_eq x y ≡ b) [
      | true ↦ λ e. eq-eqb x y (sym (eqb-true y x e))
      | false ↦ λ e. ne_eqb x y (λ same. eqb-false y x e (sym same))
    ]) refl

nat_eq-laws : IsEquivalence nat_eq
nat_eq-laws = record {
  refl = has-self;
  symm = nat_eq-swap;
  congr = λ x y z e. ap (λ n. nat_eq n z) (eqb-true x y e);
}

-- ---- a member leaves

pub has-without : (x y : ℕ) (xs : List ℕ) → has (without x xs) y ≡ true → has xs y ≡ true
has-without x y [] h = h
has-without x y (z ∷ zs) h =
    (elim (nat_eq x z) as (λ b. has (cond b zs (z ∷ without x zs)) y ≡ true → (nat_eq y z || has zs y) ≡ true) [
      | true ↦ λ k. or_right (nat_eq y z) (has zs y) k
      | false ↦ λ k. or_more (nat_eq y z) (has (without x zs) y) (has zs y) (has-without x y zs) k
    ]) h

pub without-lacks : (x y : ℕ) (xs : List ℕ) → has xs y ≡ false → has (without x xs) y ≡ false
without-lacks x y xs h = lacks_too (has (without x xs) y) (has xs y) (has-without x y xs) h

pub length-without : (x : ℕ) (xs : List ℕ) → length (without x xs) ≤ length xs
length-without x [] = omega arith
length-without x (z ∷ zs) =
    elim (nat_eq x z) as (λ b. length (cond b zs (z ∷ without x zs)) ≤ length (z ∷ zs)) [
      | true ↦ omega arith
      | false ↦ omega (arith, length-without x zs)
    ]

pub length-without_one : (x : ℕ) (xs : List ℕ) → has xs x ≡ true → length (without x xs) + 1 ≡ length xs
length-without_one x xs h = length-remove_key (nat_eq x) xs h

apart-without : (x z : ℕ) (xs : List ℕ) → AllByRecursion (λ y. nat_eq z y ≡ false) xs → AllByRecursion (λ y. nat_eq z y ≡ false) (without x xs)
apart-without x z [] h = h
apart-without x z (y ∷ ys) h =
    cond_both (nat_eq x y) ys (y ∷ without x ys) (AllByRecursion (λ w. nat_eq z w ≡ false)) (λ _. h.1) (λ _. (h.0, apart-without x z ys h.1))

pub IsDistinct-without : (x : ℕ) (xs : List ℕ) → IsDistinct nat_eq xs → IsDistinct nat_eq (without x xs)
IsDistinct-without x [] h = h
IsDistinct-without x (z ∷ zs) h =
    let tail = IsDistinct-tail nat_eq z zs h in
    cond_both (nat_eq x z) zs (z ∷ without x zs) (IsDistinct nat_eq) (λ _. tail)
    (λ _. IsDistinct-cons nat_eq z (without x zs) (apart-without x z zs (IsDistinct-head nat_eq z zs h)) (IsDistinct-without x zs tail))

has-from_apart : (z : ℕ) (xs : List ℕ) → AllByRecursion (λ y. nat_eq z y ≡ false) xs → has xs z ≡ false
has-from_apart z [] h = refl
has-from_apart z (y ∷ ys) h = ap (λ b. b || has ys z) h.0 ∙ has-from_apart z ys h.1

-- who leaves is excluded
pub has-without_same : (x : ℕ) (xs : List ℕ) → IsDistinct nat_eq xs → has (without x xs) x ≡ false
has-without_same x [] h = refl
has-without_same x (z ∷ zs) h =
    cond_both (nat_eq x z) zs (z ∷ without x zs) (λ l. has l x ≡ false)
    (λ e. subst (λ (n : ℕ). has zs n ≡ false) (sym (eqb-true x z e)) (has-from_apart z zs (IsDistinct-head nat_eq z zs h)))
    (λ e. ap (λ b. b || has (without x zs) x) e ∙ has-without_same x zs (IsDistinct-tail nat_eq z zs h))

-- ---- a member comes

pub has-put_last : (x y : ℕ) (xs : List ℕ) → nat_eq y x ≡ false → has (put_last x xs) y ≡ has xs y
has-put_last x y xs e =
    elim (has xs x) as (λ b. has (cond b xs (xs ++ x ∷ [])) y ≡ has xs y) [
      | true ↦ refl
      | false ↦ list_any-append (nat_eq y) xs (x ∷ []) ∙ ap (λ b. has xs y || (b || false)) e ∙ or-false (has xs y)
    ]

pub length-put_last : (x : ℕ) (xs : List ℕ) → length (put_last x xs) ≤ length xs + 1
length-put_last x xs =
    elim (has xs x) as (λ b. length (cond b xs (xs ++ x ∷ [])) ≤ length xs + 1) [
      | true ↦ omega arith
      | false ↦ omega (arith, length-append xs (x ∷ []))
    ]

pub IsDistinct-put_last : (x : ℕ) (xs : List ℕ) → IsDistinct nat_eq xs → IsDistinct nat_eq (put_last x xs)
IsDistinct-put_last x xs h =
    cond_both (has xs x) xs (xs ++ x ∷ []) (IsDistinct nat_eq) (λ _. h) (λ absent. IsDistinct-push nat_eq-laws xs x h absent)

-- ---- a choice

pub has-choose : (word : ℕ) (xs : List ℕ) → 0 < length xs → has xs (choose word xs) ≡ true
has-choose word xs l =
    let place : word % length xs < length xs = omega arith in
    list_any_at (nat_eq (choose word xs)) xs (word % length xs) 0 place (has-self (choose word xs))

-- who is left of a list is a member of it, and none of those that are excluded
pub has-without_all : (excluded xs : List ℕ) (y : ℕ) → has (without_all excluded xs) y ≡ true → (has xs y ≡ true) × (has excluded y ≡ false)
has-without_all excluded [] y h = absurd (true≢false (sym h))
has-without_all excluded (x ∷ xs) y h =
    (elim (has excluded x) as (λ b. has excluded x ≡ b → has (cond (not b) (x ∷ without_all excluded xs) (without_all excluded xs)) y ≡ true → ((nat_eq y x || has xs y) ≡ true) × (has excluded y ≡ false)) [
      | true ↦ λ e k. let i = has-without_all excluded xs y k in (or_right (nat_eq y x) (has xs y) i.0, i.1)
      | false ↦ λ e k. ⊎_elim
          (λ same. (ap (λ b. b || has xs y) same, ap (has excluded) (eqb-true y x same) ∙ e))
          (λ differs. let i = has-without_all excluded xs y (sym (ap (λ b. b || has (without_all excluded xs) y) differs) ∙ k) in (or_right (nat_eq y x) (has xs y) i.0, i.1))
          (cases_Bool (nat_eq y x))
    ]) refl h

-- ---- all other members stay

pub has-without_other : (x y : ℕ) (xs : List ℕ) → nat_eq y x ≡ false → has (without x xs) y ≡ has xs y
has-without_other x y [] differs = refl
has-without_other x y (z ∷ zs) differs =
    cond_both (nat_eq x z) zs (z ∷ without x zs) (λ l. has l y ≡ (nat_eq y z || has zs y))
    (λ e. ap (λ b. b || has zs y) (sym (ap (nat_eq y) (sym (eqb-true x z e)) ∙ differs)))
    (λ _. ap (λ b. nat_eq y z || b) (has-without_other x y zs differs))

pub has-put_last_same : (x : ℕ) (xs : List ℕ) → has (put_last x xs) x ≡ true
has-put_last_same x xs =
    cond_both (has xs x) xs (xs ++ x ∷ []) (λ l. has l x ≡ true)
    (λ there. there)
    (λ _. list_any-append (nat_eq x) xs (x ∷ []) ∙ or_right (has xs x) (nat_eq x x || false) (ap (λ b. b || false) (has-self x)))

-- ---- members that are not a node

pub member≢ : (node x : ℕ) (xs : List ℕ) → has xs x ≡ true → has xs node ≡ false → x ≢ node
member≢ node x xs there absent same = true≢false (sym there ∙ ap (has xs) same ∙ absent)

pub members≢ : (node : ℕ) (xs : List ℕ) → has xs node ≡ false → All (λ x. x ≢ node) xs
members≢ node [] h = All-nil (λ x. x ≢ node)
members≢ node (x ∷ xs) h =
    let parts = or_parts (nat_eq node x) (has xs node) h in
    All-cons (λ y. y ≢ node) x xs (λ same. eqb-false node x parts.0 (sym same)) (members≢ node xs parts.1)

pub not_in_without_all : (node : ℕ) (excluded xs : List ℕ) → has xs node ≡ false → has (without_all excluded xs) node ≡ false
not_in_without_all node excluded xs h =
    lacks_too (has (without_all excluded xs) node) (has xs node) (λ e. (has-without_all excluded xs node e).0) h
