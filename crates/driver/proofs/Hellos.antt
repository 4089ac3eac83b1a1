-- A hello comes before the first join through a member, and once.
use Rattle.std.proofs.Common.{◌≡◌, ◌⊎◌, inl, inr, ℕ, Bool, true, false, not, ◌&&◌, cond, nat_eq, List, [], ◌∷◌, ◌++◌, refl, sym, ap, ◌∙◌, eq-eqb}
use Rattle.std.proofs.lemmas.Bool.{and_from, eqb-true, not_from_false, or_from, or_left, or_right}
use Rattle.peer_lists.specs.Lists.{has}
use Rattle.driver.specs.declared.member.MemberChange.TheVariants.{Greeted, GivenUp, Heard, Tried}
use Rattle.driver.specs.declared.task.Task.TheVariants.{Tick, Hello, Join, BeginExchange, PeerDown}
use Rattle.driver.specs.Plan.{PlanParts, after, has_member, has_member_that, heard_from, is_of_another, new_member, with_member, taken_out, without_member}
use Rattle.driver.specs.Duty.{MemberAdded, TaskDone, LinkFailed, PlanChange, FrameCame, HellosComeFirst, HellosComeOnce, KeepMembers, Leads, MemberRemoved, greeted_in, is_greeted}
use Rattle.driver.proofs.Members.{added_none, any_at, any_filter, changed_elsewhere, changed_fails, changed_none, changed_same, tried_greeted}
use Rattle.driver.proofs.Tasks.{hello_due, join_due}

-- ---- before

abbrev WasOr : ℕ → PlanParts → List PlanChange → Type 0
WasOr n p before = (is_greeted n p.members ≡ true) ⊎ (has (greeted_in before) n ≡ true)

-- who is greeted afterwards was greeted before
of_before : (n : ℕ) (p later : PlanParts) (before : List PlanChange) → (is_greeted n later.members ≡ true → is_greeted n p.members ≡ true)
    → WasOr n later before → WasOr n p before
of_before n p later before back was = elim was [ inl greeted ↦ inl (back greeted) | inr said ↦ inr said ]

by_hello : (n k now : ℕ) (p : PlanParts) (before : List PlanChange) (b : Bool) → nat_eq n k ≡ b → WasOr n (after now (Hello k) p) before
    → (is_greeted n p.members ≡ true) ⊎ (has (k ∷ greeted_in before) n ≡ true)
by_hello n k now p before true is was = inr (or_left _ _ is)
by_hello n k now p before false is was =
    elim was [
      | inl greeted ↦ inl (sym (changed_elsewhere (λ m. m.is_greeted) n k Greeted p.members is) ∙ greeted)
      | inr said ↦ inr (or_right _ _ said)
    ]

added : (n k now : ℕ) (p : PlanParts) (b : Bool) → is_greeted n (cond b p (record p { members = p.members ++ new_member now k ∷ [] })).members ≡ true → is_greeted n p.members ≡ true
added n k now p true greeted = greeted
added n k now p false greeted = added_none (λ m. m.is_greeted) n (new_member now k) p.members refl greeted

removed : (n k : ℕ) (p : PlanParts) (b : Bool) → is_greeted n (cond b (taken_out k p) p).members ≡ true → is_greeted n p.members ≡ true
removed n k p true greeted = any_filter (λ m. nat_eq m.node n && m.is_greeted) (is_of_another k) p.members greeted
removed n k p false greeted = greeted

pub hellos_come_first : HellosComeFirst
hellos_come_first old new [] now neighbours n (is, leads) =
    let due = join_due now neighbours old n is in
    inl (any_at (λ m. nat_eq m.node n && m.is_greeted) old.members old.contact due.member due.there (and_from _ _ (eq-eqb due.member.node n due.its_node) due.greeted))
hellos_come_first old new (TaskDone at near (Hello k) ∷ before) now neighbours n (is, leads) =
    by_hello n k at old before (nat_eq n k) refl (hellos_come_first (after at (Hello k) old) new before now neighbours n leads)
hellos_come_first old new (TaskDone at near Tick ∷ before) now neighbours n (is, leads) = hellos_come_first (after at Tick old) new before now neighbours n leads
hellos_come_first old new (TaskDone at near (Join k) ∷ before) now neighbours n (is, leads) =
    of_before n old (after at (Join k) old) before (λ greeted. sym (changed_same (λ m. m.is_greeted) n k (Tried at) old.members (tried_greeted at)) ∙ greeted)
    (hellos_come_first (after at (Join k) old) new before now neighbours n leads)
hellos_come_first old new (TaskDone at near (BeginExchange k) ∷ before) now neighbours n (is, leads) = hellos_come_first (after at (BeginExchange k) old) new before now neighbours n leads
hellos_come_first old new (TaskDone at near (PeerDown k) ∷ before) now neighbours n (is, leads) =
    of_before n old (after at (PeerDown k) old) before (λ greeted. sym (changed_same (λ m. m.is_greeted) n k GivenUp old.members (λ m. refl)) ∙ greeted)
    (hellos_come_first (after at (PeerDown k) old) new before now neighbours n leads)
hellos_come_first old new (LinkFailed k ∷ before) now neighbours n (can, leads) =
    of_before n old (after 0 (PeerDown k) old) before (λ greeted. sym (changed_same (λ m. m.is_greeted) n k GivenUp old.members (λ m. refl)) ∙ greeted)
    (hellos_come_first (after 0 (PeerDown k) old) new before now neighbours n leads)
hellos_come_first old new (FrameCame at k ∷ before) now neighbours n (can, leads) =
    of_before n old (heard_from at k old) before (λ greeted. sym (changed_same (λ m. m.is_greeted) n k (Heard at) old.members (λ m. refl)) ∙ greeted)
    (hellos_come_first (heard_from at k old) new before now neighbours n leads)
hellos_come_first old new (MemberAdded at k ∷ before) now neighbours n (can, leads) =
    of_before n old (with_member at k old) before (added n k at old (has_member k old.members)) (hellos_come_first (with_member at k old) new before now neighbours n leads)
hellos_come_first old new (MemberRemoved k ∷ before) now neighbours n (can, leads) =
    of_before n old (without_member k old) before (removed n k old (has_member k old.members)) (hellos_come_first (without_member k old) new before now neighbours n leads)

-- ---- once

abbrev is_ungreeted : ℕ → PlanParts → Bool
is_ungreeted n p = has_member_that (λ m. not m.is_greeted) n p.members

-- a hello is another one's
anothers : (n k : ℕ) (p : PlanParts) (b : Bool) → nat_eq n k ≡ b → is_ungreeted k p ≡ true → is_ungreeted n p ≡ false → b ≡ false
anothers n k p true is some none = let same = eqb-true n k is in let e = sym none ∙ ap (λ x. is_ungreeted x p) same ∙ some in absurd (cc)
anothers n k p false is some none = refl

once : (n : ℕ) (p new : PlanParts) (rest : List PlanChange) → Leads p rest new → KeepMembers rest → is_ungreeted n p ≡ false → has (greeted_in rest) n ≡ false
once n p new [] leads keep none = refl
once n p new (MemberAdded now k ∷ rest) leads keep none = absurd keep
once n p new (MemberRemoved k ∷ rest) leads keep none = absurd keep
once n p new (FrameCame now k ∷ rest) (can, leads) keep none =
    once n (heard_from now k p) new rest leads keep (changed_same (λ m. not m.is_greeted) n k (Heard now) p.members (λ m. refl) ∙ none)
once n p new (LinkFailed k ∷ rest) (can, leads) keep none =
    once n (after 0 (PeerDown k) p) new rest leads keep (changed_same (λ m. not m.is_greeted) n k GivenUp p.members (λ m. refl) ∙ none)
once n p new (TaskDone now near (PeerDown k) ∷ rest) (is, leads) keep none =
    once n (after now (PeerDown k) p) new rest leads keep (changed_same (λ m. not m.is_greeted) n k GivenUp p.members (λ m. refl) ∙ none)
once n p new (TaskDone now near Tick ∷ rest) (is, leads) keep none = once n (after now Tick p) new rest leads keep none
once n p new (TaskDone now near (Join k) ∷ rest) (is, leads) keep none =
    once n (after now (Join k) p) new rest leads keep (changed_same (λ m. not m.is_greeted) n k (Tried now) p.members (λ m. ap not (tried_greeted now m)) ∙ none)
once n p new (TaskDone now near (BeginExchange k) ∷ rest) (is, leads) keep none = once n (after now (BeginExchange k) p) new rest leads keep none
once n p new (TaskDone now near (Hello k) ∷ rest) (is, leads) keep none =
    let due = hello_due now near p k is in
    let some = any_at (λ m. nat_eq m.node k && not m.is_greeted) p.members p.contact due.member due.there
    (and_from _ _ (eq-eqb due.member.node k due.its_node) (not_from_false _ due.greeted)) in
    or_from _ _ (anothers n k p (nat_eq n k) refl some none) (once n (after now (Hello k) p) new rest leads keep (changed_fails (λ m. not m.is_greeted) n k Greeted p.members (λ m. refl) none))

pub hellos_come_once : HellosComeOnce
hellos_come_once old new rest now near n (is, leads) keep =
    once n (after now (Hello n) old) new rest leads keep (changed_none (λ m. not m.is_greeted) n Greeted old.members (λ m. refl))
