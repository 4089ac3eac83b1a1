-- A node is told once that a member is down, until a frame came from it.
use Rattle.std.proofs.Common.{◌≡◌, ℕ, Bool, true, false, not, cond, nat_eq, List, [], ◌∷◌, ◌++◌, refl, sym, ap, subst, ◌∙◌}
use Rattle.std.proofs.lemmas.Bool.{eqb-true, or_from, or_parts}
use Rattle.peer_lists.specs.Lists.{has}
use Rattle.driver.specs.declared.task.Task.TheVariants.{Tick, Hello, Join, BeginExchange, PeerDown}
use Rattle.driver.specs.declared.member.MemberChange.TheVariants.{Greeted, GivenUp, Heard, Tried}
use Rattle.driver.specs.Plan.{PlanParts, after, has_member, has_member_that, heard_from, is_given_up}
use Rattle.driver.specs.Duty.{MemberAdded, TaskDone, DownsComeOnce, JoinedCountsAsUp, LinkFailed, PlanChange, FrameCame, KeepMembers, Leads, MemberRemoved, contacts_in, downs_in, heard_in}
use Rattle.driver.proofs.Members.{changed_elsewhere, changed_fails, changed_found, changed_none, changed_passes, changed_same, tried_up}
use Rattle.driver.proofs.Tasks.{down_due}

abbrev is_up : ℕ → PlanParts → Bool
is_up n p = has_member_that (λ m. not m.is_down) n p.members

-- the node is given up, in each place where it is a member
record IsDown (n : ℕ) (p : PlanParts) : Type 0 where
  given_up : is_given_up n p.members ≡ true
  none_up : is_up n p ≡ false

given_up : (n k now : ℕ) (p : PlanParts) → IsDown n p → IsDown n (after now (PeerDown k) p)
given_up n k now p down = record {
  given_up = changed_passes (λ m. m.is_down) n k GivenUp p.members (λ m. refl) down.given_up;
  none_up = changed_fails (λ m. not m.is_down) n k GivenUp p.members (λ m. refl) down.none_up;
}

greeted : (n k now : ℕ) (p : PlanParts) → IsDown n p → IsDown n (after now (Hello k) p)
greeted n k now p down = record {
  given_up = changed_same (λ m. m.is_down) n k Greeted p.members (λ m. refl) ∙ down.given_up;
  none_up = changed_same (λ m. not m.is_down) n k Greeted p.members (λ m. refl) ∙ down.none_up;
}

heard : (n k now : ℕ) (p : PlanParts) → nat_eq n k ≡ false → IsDown n p → IsDown n (heard_from now k p)
heard n k now p other down = record {
  given_up = changed_elsewhere (λ m. m.is_down) n k (Heard now) p.members other ∙ down.given_up;
  none_up = changed_elsewhere (λ m. not m.is_down) n k (Heard now) p.members other ∙ down.none_up;
}

joined : (n k now : ℕ) (p : PlanParts) → nat_eq n k ≡ false → IsDown n p → IsDown n (after now (Join k) p)
joined n k now p other down = record {
  given_up = changed_elsewhere (λ m. m.is_down) n k (Tried now) p.members other ∙ down.given_up;
  none_up = changed_elsewhere (λ m. not m.is_down) n k (Tried now) p.members other ∙ down.none_up;
}

-- who is given up for its silence is another one
anothers : (n k : ℕ) (p : PlanParts) (b : Bool) → nat_eq n k ≡ b → is_up k p ≡ true → IsDown n p → b ≡ false
anothers n k p true is some down = let same = eqb-true n k is in let e = sym down.none_up ∙ ap (λ x. is_up x p) same ∙ some in absurd (cc)
anothers n k p false is some down = refl

-- nothing is told of a link of this one
of_link : (n k : ℕ) (b given : Bool) (later : List ℕ) → nat_eq n k ≡ b → (b ≡ true → given ≡ true) → has later n ≡ false → has (cond given [] (k ∷ []) ++ later) n ≡ false
of_link n k b true later is same none = none
of_link n k true false later is same none = let e = same refl in absurd (cc)
of_link n k false false later is same none = or_from _ _ is none

once : (n : ℕ) (p new : PlanParts) (rest : List PlanChange) → Leads p rest new → KeepMembers rest → IsDown n p → has (heard_in rest) n ≡ false
    → has (contacts_in rest) n ≡ false → has (downs_in p rest) n ≡ false
once n p new [] leads keep down none apart = refl
once n p new (MemberAdded now k ∷ rest) leads keep down none apart = absurd keep
once n p new (MemberRemoved k ∷ rest) leads keep down none apart = absurd keep
once n p new (FrameCame now k ∷ rest) (can, leads) keep down none apart =
    let parts = or_parts (nat_eq n k) (has (heard_in rest) n) none in
    once n (heard_from now k p) new rest leads keep (heard n k now p parts.0 down) parts.1 apart
once n p new (LinkFailed k ∷ rest) (can, leads) keep down none apart =
    of_link n k (nat_eq n k) (is_given_up k p.members) (downs_in (after 0 (PeerDown k) p) rest) refl
    (λ same. ap (λ x. is_given_up x p.members) (sym (eqb-true n k same)) ∙ down.given_up)
    (once n (after 0 (PeerDown k) p) new rest leads keep (given_up n k 0 p down) none apart)
once n p new (TaskDone now near (PeerDown k) ∷ rest) (is, leads) keep down none apart =
    or_from _ _ (anothers n k p (nat_eq n k) refl (down_due now near p k is).0 down) (once n (after now (PeerDown k) p) new rest leads keep (given_up n k now p down) none apart)
once n p new (TaskDone now near (Hello k) ∷ rest) (is, leads) keep down none apart = once n (after now (Hello k) p) new rest leads keep (greeted n k now p down) none apart
once n p new (TaskDone now near Tick ∷ rest) (is, leads) keep down none apart = once n (after now Tick p) new rest leads keep (record { given_up = down.given_up; none_up = down.none_up }) none apart
once n p new (TaskDone now near (Join k) ∷ rest) (is, leads) keep down none apart =
    let parts = or_parts (nat_eq n k) (has (contacts_in rest) n) apart in
    once n (after now (Join k) p) new rest leads keep (joined n k now p parts.0 down) none parts.1
once n p new (TaskDone now near (BeginExchange k) ∷ rest) (is, leads) keep down none apart =
    once n (after now (BeginExchange k) p) new rest leads keep (record { given_up = down.given_up; none_up = down.none_up }) none apart

begun : (now : ℕ) (k n : ℕ) (p new : PlanParts) (rest : List PlanChange) → Leads (after now (PeerDown k) p) rest new → KeepMembers rest → has_member n p.members ≡ true → k ≡ n
    → has (heard_in rest) n ≡ false → has (contacts_in rest) n ≡ false → has (downs_in (after now (PeerDown k) p) rest) n ≡ false
begun now k n p new rest leads keep is_member same none apart =
    let down : IsDown k (after now (PeerDown k) p) = record {
      given_up = changed_found (λ m. m.is_down) k GivenUp p.members (λ m. refl) (subst (λ x. has_member x p.members ≡ true) (sym same) is_member);
      none_up = changed_none (λ m. not m.is_down) k GivenUp p.members (λ m. refl);
    } in
    once n (after now (PeerDown k) p) new rest leads keep (subst (λ x. IsDown x (after now (PeerDown k) p)) same down) none apart

pub downs_come_once : DownsComeOnce
downs_come_once old new (LinkFailed k) rest n (can, leads) keep is_member same none apart = begun 0 k n old new rest leads keep is_member same none apart
downs_come_once old new (TaskDone now near (PeerDown k)) rest n (is, leads) keep is_member same none apart = begun now k n old new rest leads keep is_member same none apart
downs_come_once old new (TaskDone now near Tick) rest n leads keep is_member same none apart = absurd same
downs_come_once old new (TaskDone now near (Hello k)) rest n leads keep is_member same none apart = absurd same
downs_come_once old new (TaskDone now near (Join k)) rest n leads keep is_member same none apart = absurd same
downs_come_once old new (TaskDone now near (BeginExchange k)) rest n leads keep is_member same none apart = absurd same
downs_come_once old new (FrameCame now k) rest n leads keep is_member same none apart = absurd same
downs_come_once old new (MemberAdded now k) rest n leads keep is_member same none apart = absurd same
downs_come_once old new (MemberRemoved k) rest n leads keep is_member same none apart = absurd same

pub joined_counts_as_up : JoinedCountsAsUp
joined_counts_as_up old new now near n (is, same) =
    ap (λ (p : PlanParts). is_given_up n p.members) same ∙ changed_none (λ m. m.is_down) n (Tried now) old.members (tried_up now)
