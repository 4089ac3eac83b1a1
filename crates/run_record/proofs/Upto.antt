-- Journals that a run has gone through up to a moment: of each node, so many entries.
use Rattle.std.proofs.Common.{◌≡◌, ◌≢◌, ◌<◌, ◌≤◌, ◌+◌, ◌⊎◌, ℕ, List, [], ◌∷◌, length, Some, refl, sym, subst, ap, ◌∙◌, inl, inr, arith}
use Rattle.std.proofs.lemmas.Bool.{cases_eq}
use Rattle.std.proofs.lemmas.Option.{slice_get_within}
use Rattle.node_events.specs.declared.event.NodeEvent.{NodeEvent}
use Rattle.node_journal.specs.declared.entry.Entry.{Entry}
use Rattle.node_journal.specs.Closed.{ClosedNode}
use Rattle.run_record.specs.Giving.{Needs, Supplies}
use Rattle.run_record.specs.Journals.{HaveNodes, entry_at, journal_of}
use Rattle.run_record.specs.Refusal.{IsStuck, Lists, NoneIsStuck, NoneIsUnsent}
use Rattle.run_record.specs.declared.order_fault.Place.{Place}
use Rattle.run_record.proofs.Stalling.{nodes_of}

-- ---- one entry more

-- of this node one entry more was gone through, and of each other node as many as before
pub record GoesOn (n : ℕ) (old new : ℕ → ℕ) : Type 0 where
  pub own : new n ≡ old n + 1
  pub others : (m : ℕ) → n ≢ m → new m ≡ old m

never_fewer : (n : ℕ) (old new : ℕ → ℕ) → GoesOn n old new → (m : ℕ) → old m ≤ new m
never_fewer n old new on m = elim (cases_eq m n) [
  | inl same ↦ subst (λ k. old k ≤ new k) (sym same) (omega (arith, on.own))
  | inr other ↦ omega (arith, on.others m (λ h. other (sym h)))
]

-- an entry that was gone through is one from before, or the last
before_or_last : (n : ℕ) (old new : ℕ → ℕ) → GoesOn n old new → (m p : ℕ) → p < new m
    → (p < old m) ⊎ ((m ≡ n) × (p ≡ old n))
before_or_last n old new on m p lt = elim (cases_eq m n) [
  | inl same ↦
      let less : p < old n + 1 = subst (λ k. p < k) (ap new same ∙ on.own) lt in
      elim (cases_eq p (old n)) [
        | inl last ↦ inr (same, last)
        | inr ne ↦ inl (subst (λ k. p < old k) (sym same) (omega (arith, less, ne)))
      ]
  | inr other ↦ inl (subst (λ k. p < k) (on.others m (λ h. other (sym h))) lt)
]

-- ---- what entries need

-- an entry that was gone through gives what the event needs
pub record IsSupplied (closed : List ClosedNode) (upto : ℕ → ℕ) (event : NodeEvent) : Type 0 where
  pub node : ℕ
  pub place : ℕ
  pub passed : place < upto node
  pub entry : Entry
  pub there : entry_at closed node place ≡ Some entry
  pub gives : Supplies entry event

pub still_supplied : (closed : List ClosedNode) (n : ℕ) (old new : ℕ → ℕ) (event : NodeEvent)
    → GoesOn n old new → IsSupplied closed old event → IsSupplied closed new event
still_supplied closed n old new event on s = record {
  node = s.node;
  place = s.place;
  passed = omega (arith, s.passed, never_fewer n old new on s.node);
  entry = s.entry;
  there = s.there;
  gives = s.gives;
}

-- each entry that was gone through was given what it needs, and none of them is stuck
pub record NoneLacks (closed : List ClosedNode) (upto : ℕ → ℕ) : Type 0 where
  pub given : (n p : ℕ) (e : Entry) → p < upto n → entry_at closed n p ≡ Some e → Needs e.event
      → IsSupplied closed upto e.event
  pub past : (places : List Place) → IsStuck closed places → (n r : ℕ) → Lists places n r
      → upto n ≤ r

-- what is next isn't at a stuck place, if it was given what it needs
not_stuck_here : (closed : List ClosedNode) (n : ℕ) (upto : ℕ → ℕ) (e : Entry)
    (places : List Place) (r : ℕ) → entry_at closed n (upto n) ≡ Some e
    → (Needs e.event → IsSupplied closed upto e.event) → NoneLacks closed upto
    → IsStuck closed places → Lists places n r → upto n ≡ r → ⊥
not_stuck_here closed n upto e places r there given none stuck l at =
    let s = stuck.each n r l in
    let at_r : entry_at closed n r ≡ Some e =
    subst (λ q. entry_at closed n q ≡ Some e) at there in
    let is : s.entry ≡ e = cc (s.there, at_r) in
    let g = given (subst (λ (x : Entry). Needs x.event) is s.needs) in
    let gives = subst (λ (x : Entry). Supplies g.entry x.event) (sym is) g.gives in
    let w = s.waits g.node g.place g.entry g.there gives in
    let before : upto g.node ≤ w.0 = none.past places stuck g.node w.0 w.1.0 in
    omega (arith, g.passed, w.1.1, before)

past_more : (closed : List ClosedNode) (n : ℕ) (old new : ℕ → ℕ) (e : Entry) → GoesOn n old new
    → entry_at closed n (old n) ≡ Some e → (Needs e.event → IsSupplied closed old e.event)
    → NoneLacks closed old → (places : List Place) → IsStuck closed places → (m r : ℕ)
    → Lists places m r → new m ≤ r
past_more closed n old new e on there given none places stuck m r l = elim (cases_eq m n) [
  | inl same ↦
      let l_n : Lists places n r = subst (λ k. Lists places k r) same l in
      let before : old n ≤ r = none.past places stuck n r l_n in
      let further : new n ≤ r = elim (cases_eq (old n) r) [
        | inl at ↦
            absurd (not_stuck_here closed n old e places r there given none stuck l_n at)
        | inr ne ↦ omega (arith, before, ne, on.own)
      ] in
      subst (λ k. new k ≤ r) (sym same) further
  | inr other ↦
      let before : old m ≤ r = none.past places stuck m r l in
      omega (arith, before, on.others m (λ h. other (sym h)))
]

pub none_lacks_more : (closed : List ClosedNode) (n : ℕ) (old new : ℕ → ℕ) (e : Entry)
    → GoesOn n old new → entry_at closed n (old n) ≡ Some e
    → (Needs e.event → IsSupplied closed old e.event) → NoneLacks closed old
    → NoneLacks closed new
none_lacks_more closed n old new e on there given none = record {
  given = λ m p x lt at needs. elim (before_or_last n old new on m p lt) [
    | inl before ↦
        still_supplied closed n old new x.event on (none.given m p x before at needs)
    | inr last ↦
        let at_last : entry_at closed m (old n) ≡ Some x =
        subst (λ q. entry_at closed m q ≡ Some x) last.1 at in
        let here : entry_at closed n (old n) ≡ Some x =
        subst (λ k. entry_at closed k (old n) ≡ Some x) last.0 at_last in
        let is : e ≡ x = cc (there, here) in
        let own = given (subst (λ (y : Entry). Needs y.event) (sym is) needs) in
        still_supplied closed n old new x.event on
        (subst (λ (y : Entry). IsSupplied closed old y.event) is own)
  ];
  past = past_more closed n old new e on there given none;
}

-- ---- all entries

-- of each node all entries were gone through
abbrev pub AllCame : List ClosedNode → (ℕ → ℕ) → Type 0
AllCame closed upto = (n : ℕ) → n < length closed → upto n ≡ length (journal_of closed n)

pub all_were_sent : (closed : List ClosedNode) (upto : ℕ → ℕ) → HaveNodes closed
    → AllCame closed upto → NoneLacks closed upto → NoneIsUnsent closed
all_were_sent closed upto nodes all none n p un =
    let within = slice_get_within (journal_of closed n) p un.0 un.1.0 in
    let low : n < length closed = nodes_of closed n p un.0 nodes un.1.0 in
    let g = none.given n p un.0 (omega (arith, within, all n low)) un.1.0 un.1.1.needs in
    un.1.1.none g.node g.place g.entry g.there g.gives

pub none_was_stuck : (closed : List ClosedNode) (upto : ℕ → ℕ) → AllCame closed upto
    → NoneLacks closed upto → NoneIsStuck closed
none_was_stuck closed upto all none [] stuck = absurd (omega (arith, stuck.some))
none_was_stuck closed upto all none (p ∷ later) stuck =
    let here : Lists (p ∷ later) p.node p.place = record { at = 0; there = refl } in
    let s = stuck.each p.node p.place here in
    let within = slice_get_within (journal_of closed p.node) p.place s.entry s.there in
    let before : upto p.node ≤ p.place = none.past (p ∷ later) stuck p.node p.place here in
    omega (arith, within, before, all p.node s.node)
