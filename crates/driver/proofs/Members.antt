-- Members through a change: who they are, how many, and which of them pass a test.
use Rattle.std.proofs.Common.{◌≡◌, ℕ, Bool, true, false, ◌&&◌, ◌||◌, cond, nat_eq, List, [], ◌∷◌, ◌++◌, map, filter, refl, sym, ap, subst, ◌∙◌}
use Rattle.std.specs.List.{list_any}
use Rattle.std.specs.Prelude.{slice_get, Some}
use Rattle.std.proofs.Common.{zero, suc, inl, inr, eq-eqb}
use Rattle.std.proofs.lemmas.Bool.{and_from, and_left, and_parts, cases_Bool, eqb-true, or_cases, or_from, or_left, or_parts, or_right}
use Rattle.std.proofs.lemmas.List.Folds.{list_any-append}
use Rattle.driver.specs.declared.member.Member.{Member}
use Rattle.driver.specs.declared.member.MemberChange.{MemberChange}
use Rattle.driver.specs.declared.member.MemberChange.TheVariants.{Greeted, GivenUp, Heard, Tried}
use Rattle.driver.specs.Plan.{all_learn, has_member, has_member_that, learn, made}
use Rattle.driver.specs.Duty.{nodes_of}

-- ---- who they are

either : (b : Bool) (m other : Member) → other.node ≡ m.node → (cond b other m).node ≡ m.node
either true m other same = same
either false m other same = refl

made_node : (change : MemberChange) (m : Member) → (made change m).node ≡ m.node
made_node Greeted m = refl
made_node GivenUp m = refl
made_node (Heard now) m = refl
made_node (Tried now) m = either m.is_down m (made (Heard now) m) refl

-- who is tried again is greeted as before, and up
pub tried_greeted : (now : ℕ) (m : Member) → (made (Tried now) m).is_greeted ≡ m.is_greeted
tried_greeted now m = same m.is_down
  where
    same : (b : Bool) → (cond b (made (Heard now) m) m).is_greeted ≡ m.is_greeted
    same true = refl
    same false = refl

pub tried_up : (now : ℕ) (m : Member) → (made (Tried now) m).is_down ≡ false
tried_up now m = up m.is_down refl
  where
    up : (b : Bool) → m.is_down ≡ b → (cond b (made (Heard now) m) m).is_down ≡ false
    up true is = refl
    up false is = is

pub learn_node : (change : MemberChange) (n : ℕ) (m : Member) → (learn change n m).node ≡ m.node
learn_node change n m = either _ m (made change m) (made_node change m)

pub nodes_changed : (change : MemberChange) (n : ℕ) (members : List Member) → nodes_of (all_learn change n members) ≡ nodes_of members
nodes_changed change n [] = refl
nodes_changed change n (m ∷ members) =
    ap (λ x. x ∷ nodes_of (all_learn change n members)) (learn_node change n m) ∙ ap (λ xs. m.node ∷ xs) (nodes_changed change n members)

-- ---- a test, element by element

pub any_map_same : (t : Member → Bool) (f : Member → Member) (members : List Member) → ((m : Member) → t (f m) ≡ t m) → list_any t (map f members) ≡ list_any t members
any_map_same t f [] same = refl
any_map_same t f (m ∷ members) same = ap (λ b. b || list_any t (map f members)) (same m) ∙ ap (λ b. t m || b) (any_map_same t f members same)

pub any_map_true : (t : Member → Bool) (f : Member → Member) (members : List Member) → ((m : Member) → t m ≡ true → t (f m) ≡ true)
    → list_any t members ≡ true → list_any t (map f members) ≡ true
any_map_true t f [] more any = any
any_map_true t f (m ∷ members) more any =
    elim (or_cases (t m) (list_any t members) any) [
      | inl here ↦ or_left _ _ (more m here)
      | inr later ↦ or_right _ _ (any_map_true t f members more later)
    ]

pub any_map_false : (t : Member → Bool) (f : Member → Member) (members : List Member) → ((m : Member) → t m ≡ false → t (f m) ≡ false)
    → list_any t members ≡ false → list_any t (map f members) ≡ false
any_map_false t f [] less none = none
any_map_false t f (m ∷ members) less none =
    let parts = or_parts (t m) (list_any t members) none in
    or_from _ _ (less m parts.0) (any_map_false t f members less parts.1)

none_map : (t : Member → Bool) (f : Member → Member) (members : List Member) → ((m : Member) → t (f m) ≡ false) → list_any t (map f members) ≡ false
none_map t f [] none = refl
none_map t f (m ∷ members) none = or_from _ _ (none m) (none_map t f members none)

pub any_at : (t : Member → Bool) (members : List Member) (at : ℕ) (m : Member) → slice_get members at ≡ Some m → t m ≡ true → list_any t members ≡ true
any_at t [] at m is passes = absurd (cc)
any_at t (k ∷ members) zero m is passes = let same : k ≡ m = cc in or_left _ _ (ap t same ∙ passes)
any_at t (k ∷ members) (suc at) m is passes = or_right _ _ (any_at t members at m is passes)

kept_any : (t : Member → Bool) (b : Bool) (m : Member) (kept members : List Member) → (list_any t kept ≡ true → list_any t members ≡ true)
    → list_any t (cond b (m ∷ kept) kept) ≡ true → (t m || list_any t members) ≡ true
kept_any t true m kept members later any =
    elim (or_cases (t m) (list_any t kept) any) [ inl here ↦ or_left _ _ here | inr more ↦ or_right _ _ (later more) ]
kept_any t false m kept members later any = or_right _ _ (later any)

pub any_filter : (t p : Member → Bool) (members : List Member) → list_any t (filter p members) ≡ true → list_any t members ≡ true
any_filter t p [] any = any
any_filter t p (m ∷ members) any = kept_any t (p m) m (filter p members) members (any_filter t p members) any

-- ---- a test of the members of a node

-- another node learns something
elsewhere : (g : Member → Bool) (n k : ℕ) (change : MemberChange) (m : Member) (b : Bool) → nat_eq n k ≡ false → nat_eq m.node k ≡ b
    → (nat_eq (cond b (made change m) m).node n && g (cond b (made change m) m)) ≡ (nat_eq m.node n && g m)
elsewhere g n k change m true other is =
    let its : m.node ≡ k = eqb-true m.node k is in
    let apart : nat_eq m.node n ≡ false = elim (cases_Bool (nat_eq m.node n)) [
      | inl same ↦ let e : n ≡ k = sym (eqb-true m.node n same) ∙ its in let clash = sym (eq-eqb n k e) ∙ other in absurd (cc)
      | inr not_same ↦ not_same
    ] in
    and_left _ _ (ap (λ x. nat_eq x n) (made_node change m) ∙ apart) ∙ sym (and_left _ _ apart)
elsewhere g n k change m false other is = refl

pub changed_elsewhere : (g : Member → Bool) (n k : ℕ) (change : MemberChange) (members : List Member) → nat_eq n k ≡ false
    → has_member_that g n (all_learn change k members) ≡ has_member_that g n members
changed_elsewhere g n k change members other =
    any_map_same (λ m. nat_eq m.node n && g m) (learn change k) members (λ m. elsewhere g n k change m (nat_eq m.node k) other refl)

-- the change keeps what the test looks at
kept_by : (g : Member → Bool) (n : ℕ) (change : MemberChange) (m : Member) (b : Bool) → g (made change m) ≡ g m
    → (nat_eq (cond b (made change m) m).node n && g (cond b (made change m) m)) ≡ (nat_eq m.node n && g m)
kept_by g n change m true same = ap (λ x. nat_eq x n && g (made change m)) (made_node change m) ∙ ap (λ x. nat_eq m.node n && x) same
kept_by g n change m false same = refl

pub changed_same : (g : Member → Bool) (n k : ℕ) (change : MemberChange) (members : List Member) → ((m : Member) → g (made change m) ≡ g m)
    → has_member_that g n (all_learn change k members) ≡ has_member_that g n members
changed_same g n k change members same =
    any_map_same (λ m. nat_eq m.node n && g m) (learn change k) members (λ m. kept_by g n change m (nat_eq m.node k) (same m))

-- the change makes the test pass, or fail, at the node's members
all_pass : (g : Member → Bool) (n k : ℕ) (change : MemberChange) (m : Member) (b : Bool) → g (made change m) ≡ true
    → (nat_eq m.node n && g m) ≡ true → (nat_eq (cond b (made change m) m).node n && g (cond b (made change m) m)) ≡ true
all_pass g n k change m true passes was =
    and_from _ _ (ap (λ x. nat_eq x n) (made_node change m) ∙ (and_parts (nat_eq m.node n) (g m) was).0) passes
all_pass g n k change m false passes was = was

pub changed_passes : (g : Member → Bool) (n k : ℕ) (change : MemberChange) (members : List Member) → ((m : Member) → g (made change m) ≡ true)
    → has_member_that g n members ≡ true → has_member_that g n (all_learn change k members) ≡ true
changed_passes g n k change members passes any =
    any_map_true (λ m. nat_eq m.node n && g m) (learn change k) members (λ m. all_pass g n k change m (nat_eq m.node k) (passes m)) any

none_pass : (g : Member → Bool) (n k : ℕ) (change : MemberChange) (m : Member) (b : Bool) → g (made change m) ≡ false
    → (nat_eq m.node n && g m) ≡ false → (nat_eq (cond b (made change m) m).node n && g (cond b (made change m) m)) ≡ false
none_pass g n k change m true fails was = subst (λ x. (nat_eq (made change m).node n && x) ≡ false) (sym fails) (no_and (nat_eq (made change m).node n))
  where
    no_and : (b : Bool) → (b && false) ≡ false
    no_and true = refl
    no_and false = refl
none_pass g n k change m false fails was = was

pub changed_fails : (g : Member → Bool) (n k : ℕ) (change : MemberChange) (members : List Member) → ((m : Member) → g (made change m) ≡ false)
    → has_member_that g n members ≡ false → has_member_that g n (all_learn change k members) ≡ false
changed_fails g n k change members fails none =
    any_map_false (λ m. nat_eq m.node n && g m) (learn change k) members (λ m. none_pass g n k change m (nat_eq m.node k) (fails m)) none

-- once the node itself learned it, the test passes at one of its members, or fails at all
here : (g : Member → Bool) (n : ℕ) (change : MemberChange) (m : Member) (b : Bool) → nat_eq m.node n ≡ b → g (made change m) ≡ false
    → (nat_eq (cond b (made change m) m).node n && g (cond b (made change m) m)) ≡ false
here g n change m true is fails = subst (λ x. (nat_eq (made change m).node n && x) ≡ false) (sym fails) (no_and (nat_eq (made change m).node n))
  where
    no_and : (b : Bool) → (b && false) ≡ false
    no_and true = refl
    no_and false = refl
here g n change m false is fails = and_left _ _ is

pub changed_none : (g : Member → Bool) (n : ℕ) (change : MemberChange) (members : List Member) → ((m : Member) → g (made change m) ≡ false)
    → has_member_that g n (all_learn change n members) ≡ false
changed_none g n change members fails =
    none_map (λ m. nat_eq m.node n && g m) (learn change n) members (λ m. here g n change m (nat_eq m.node n) refl (fails m))

found : (g : Member → Bool) (n : ℕ) (change : MemberChange) (m : Member) (b : Bool) → nat_eq m.node n ≡ b → g (made change m) ≡ true
    → b ≡ true → (nat_eq (cond b (made change m) m).node n && g (cond b (made change m) m)) ≡ true
found g n change m true is passes its = and_from _ _ (ap (λ x. nat_eq x n) (made_node change m) ∙ is) passes
found g n change m false is passes its = absurd (cc)

pub changed_found : (g : Member → Bool) (n : ℕ) (change : MemberChange) (members : List Member) → ((m : Member) → g (made change m) ≡ true)
    → has_member n members ≡ true → has_member_that g n (all_learn change n members) ≡ true
changed_found g n change [] passes has = absurd (cc)
changed_found g n change (m ∷ members) passes has =
    elim (or_cases (nat_eq m.node n) (has_member n members) has) [
      | inl its ↦ or_left _ _ (found g n change m (nat_eq m.node n) refl (passes m) its)
      | inr later ↦ or_right _ _ (changed_found g n change members passes later)
    ]

-- ---- members are added and removed

pub added_none : (g : Member → Bool) (n : ℕ) (new : Member) (members : List Member) → g new ≡ false
    → has_member_that g n (members ++ new ∷ []) ≡ true → has_member_that g n members ≡ true
added_none g n new members fails any =
    elim (or_cases (has_member_that g n members) (has_member_that g n (new ∷ [])) (sym (list_any-append (λ m. nat_eq m.node n && g m) members (new ∷ [])) ∙ any)) [
      | inl was ↦ was
      | inr is ↦ elim (or_cases (nat_eq new.node n && g new) false is) [
        | inl it ↦ let parts = and_parts (nat_eq new.node n) (g new) it in let clash = sym parts.1 ∙ fails in absurd (cc)
        | inr never ↦ absurd (cc)
      ]
    ]
