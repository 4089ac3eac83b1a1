-- Each member has its turn.
use Rattle.std.proofs.Common.{◌≡◌, ◌<◌, ◌≤◌, ◌+◌, inl, inr, ℕ, zero, suc, Bool, true, false, cond, nat_eq, nat_lt, List, [], ◌∷◌, length, refl, sym, ap, subst, arith, eq-eqb}
use Rattle.std.proofs.lemmas.List.{length-map}
use Rattle.std.proofs.lemmas.Bool.{cases_eq, cases_lt, cond-true, eqb-true, lt-ltb, ltb-true, or_cases, or_left, or_right}
use Rattle.peer_lists.specs.Lists.{has}
use Rattle.driver.specs.declared.member.Member.{Member}
use Rattle.driver.specs.Plan.{has_member, next_place}
use Rattle.driver.specs.Duty.{EachHasItsTurn, number_at, nodes_of, partners_in, round_from}
use Rattle.driver.proofs.Rounds.{exchanges_go_round}

next_more : (len at : ℕ) → at + 1 < len → next_place len at ≡ at + 1
next_more len at more = cond-true (nat_lt (at + 1) len) (at + 1) 0 (lt-ltb (at + 1) len more)

no_more : (len at : ℕ) (b : Bool) → nat_lt (at + 1) len ≡ b → len ≤ at + 1 → cond b (at + 1) 0 ≡ 0
no_more len at true is last = absurd (omega (arith, ltb-true (at + 1) len is))
no_more len at false is last = refl

next_first : (len at : ℕ) → len ≤ at + 1 → next_place len at ≡ 0
next_first len at last = no_more len at (nat_lt (at + 1) len) refl last

abbrev IsIn : (count at : ℕ) → List ℕ → ℕ → Type 0
IsIn count at nodes p = has (round_from count at nodes) (number_at nodes p) ≡ true

-- the places from this one on
onward : (count at : ℕ) (nodes : List ℕ) (p : ℕ) → at ≤ p → p < length nodes → p < at + count → IsIn count at nodes p
onward zero at nodes p from within few = absurd (omega arith)
onward (suc more) at nodes p from within few =
    elim (cases_eq at p) [
      | inl same ↦ or_left _ _ (eq-eqb (number_at nodes p) (number_at nodes at) (ap (number_at nodes) (sym same)))
      | inr apart ↦
          let later : at + 1 ≤ p = omega (arith, apart) in
          let next = next_more (length nodes) at (omega arith) in
          or_right _ _ (subst (λ k. IsIn more k nodes p) (sym next) (onward more (at + 1) nodes p later within (omega arith)))
    ]

-- the places before it, once it goes on from the first
around : (count at : ℕ) (nodes : List ℕ) (p : ℕ) → p < at → at < length nodes → p + length nodes < count + at → IsIn count at nodes p
around zero at nodes p before within few = absurd (omega arith)
around (suc more) at nodes p before within few =
    elim (cases_lt (at + 1) (length nodes)) [
      | inl goes ↦ or_right _ _ (subst (λ k. IsIn more k nodes p) (sym (next_more (length nodes) at goes)) (around more (at + 1) nodes p (omega arith) goes (omega arith)))
      | inr last ↦ or_right _ _ (subst (λ k. IsIn more k nodes p) (sym (next_first (length nodes) at last)) (onward more 0 nodes p (omega arith) (omega arith) (omega arith)))
    ]

in_round : (count at : ℕ) (nodes : List ℕ) (p : ℕ) → at < length nodes → length nodes ≤ count → p < length nodes → IsIn count at nodes p
in_round count at nodes p from all within =
    elim (cases_lt p at) [ inl before ↦ around count at nodes p before from (omega arith) | inr later ↦ onward count at nodes p later within (omega arith) ]

-- a member is at some place
place_of : (n : ℕ) (members : List Member) → has_member n members ≡ true → (p : ℕ) × ((p < length (nodes_of members)) × (number_at (nodes_of members) p ≡ n))
place_of n [] is = absurd (cc)
place_of n (m ∷ members) is =
    elim (or_cases (nat_eq m.node n) (has_member n members) is) [
      | inl here ↦ (0, (omega arith, eqb-true m.node n here))
      | inr later ↦ let found = place_of n members later in (suc found.0, (omega (arith, found.1.0), found.1.1))
    ]

pub each_has_its_turn : EachHasItsTurn
each_has_its_turn old new changes n leads keep place enough is_member =
    let found = place_of n old.members is_member in
    let nodes = nodes_of old.members in
    let count = length-map old.members (λ (m : Member). m.node) in
    let some : 0 < length old.members = omega (arith, found.1.0, count) in
    let from : old.partner < length nodes = elim place [ inl first ↦ omega (arith, first, some, count) | inr low ↦ omega (arith, low, count) ] in
    let round = (exchanges_go_round old new changes leads keep some).0 in
    let is = in_round (length (partners_in changes)) old.partner nodes found.0 from (omega (arith, enough, count)) found.1.0 in
    subst (λ k. has (partners_in changes) k ≡ true) found.1.1 (subst (λ (ns : List ℕ). has ns (number_at nodes found.0) ≡ true) (sym round) is)
