-- No number stands twice in a list if none stands twice in what is left of it, and the first of
-- what is left stands in no later place.
use Rattle.std.proofs.Common.{◌≡◌, ◌<◌, ◌||◌, ◌+◌, ℕ, zero, suc, nat_eq, Bool, true, false, List, [], ◌∷◌, length, get_or, map, drop, refl, sym, subst, add-one, ◌∙◌}
use Rattle.std.specs.List.{AllByRecursion, IsDistinct, list_any}
use Rattle.std.proofs.lemmas.Map.Keys.{IsDistinct-head, IsDistinct-tail, IsDistinct-cons}
use Rattle.std.proofs.Math.Seq.{drop-cons}
use Rattle.node_journal.specs.Closed.{ClosedNode, number_of}

-- one of them has the number
abbrev has : ℕ → List ClosedNode → Bool
has x cs = list_any (λ c. nat_eq x (number_of c)) cs

none_after : (x : ℕ) (cs : List ClosedNode) → has x cs ≡ false
    → AllByRecursion (λ y. nat_eq x y ≡ false) (map number_of cs)
none_after x [] none = tt
none_after x (c ∷ cs) none =
    by_head (nat_eq x (number_of c)) (has x cs) none (none_after x cs)
  where
    by_head : {P : Type 0} (a b : Bool) → (a || b) ≡ false → (b ≡ false → P) → (a ≡ false) × P
    by_head true b h rest = absurd (cc)
    by_head false b h rest = (refl, rest h)

some_after : (x : ℕ) (cs : List ClosedNode)
    → AllByRecursion (λ y. nat_eq x y ≡ false) (map number_of cs) → has x cs ≡ false
some_after x [] all = refl
some_after x (c ∷ cs) all = (λ i. all.0 i || has x cs) ∙ some_after x cs all.1

-- what is left begins with the element at this place
left_is : (cs : List ClosedNode) (n : ℕ) (c : ClosedNode) → n < length cs → c ≡ get_or cs n c
    → drop n cs ≡ c ∷ drop (n + 1) cs
left_is cs n c lt is = rw add-one (drop-cons cs n c lt ∙ λ i. sym is i ∷ drop (suc n) cs)

-- none stands twice in what is left
pub apart_before : (cs : List ClosedNode) (n : ℕ) (c : ClosedNode) → n < length cs
    → c ≡ get_or cs n c
    → list_any (λ d. nat_eq (number_of c) (number_of d)) (drop (n + 1) cs) ≡ false
    → IsDistinct nat_eq (map number_of (drop (n + 1) cs))
    → IsDistinct nat_eq (map number_of (drop n cs))
apart_before cs n c lt is none rest =
    let later = drop (n + 1) cs in
    let differs = none_after (number_of c) later none in
    subst (λ (ds : List ClosedNode). IsDistinct nat_eq (map number_of ds))
    (sym (left_is cs n c lt is))
    (IsDistinct-cons nat_eq (number_of c) (map number_of later) differs rest)

-- none stands twice in what is left, if none does in all
apart_in_rest : (cs : List ClosedNode) (n : ℕ) → IsDistinct nat_eq (map number_of cs)
    → IsDistinct nat_eq (map number_of (drop n cs))
apart_in_rest cs zero apart = apart
apart_in_rest [] (suc n) apart = apart
apart_in_rest (c ∷ cs) (suc n) apart =
    apart_in_rest cs n (IsDistinct-tail nat_eq (number_of c) (map number_of cs) apart)

-- one stands twice
pub stands_twice : (cs : List ClosedNode) (n : ℕ) (c : ClosedNode) → n < length cs
    → c ≡ get_or cs n c
    → list_any (λ d. nat_eq (number_of c) (number_of d)) (drop (n + 1) cs) ≡ true
    → IsDistinct nat_eq (map number_of cs) → ⊥
stands_twice cs n c lt is some apart =
    let later = drop (n + 1) cs in
    let left = subst (λ (ds : List ClosedNode). IsDistinct nat_eq (map number_of ds))
    (left_is cs n c lt is) (apart_in_rest cs n apart) in
    let none = some_after (number_of c) later
    (IsDistinct-head nat_eq (number_of c) (map number_of later) left) in
    let both : true ≡ false = sym some ∙ none in
    absurd (cc)

-- what is left at the end is nothing
pub apart_at_end : (cs : List ClosedNode) (n : ℕ) → length cs ≡ n
    → IsDistinct nat_eq (map number_of (drop n cs))
unfolding IsDistinct
apart_at_end [] zero is = tt
apart_at_end [] (suc n) is = absurd (cc)
apart_at_end (c ∷ cs) zero is = absurd (cc)
apart_at_end (c ∷ cs) (suc n) is = apart_at_end cs n (cc)
