-- Nobody goes past a place that is stuck; and each turn leaves the places within their journals.
use Rattle.std.proofs.Common.{◌≡◌, ◌<◌, ◌≤◌, ◌+◌, ◌⊎◌, ◌≢◌, ℕ, List, length, get_or, set, slice_index, Option, Some, None, sym, subst, ◌∙◌, inl, inr, arith, get_or-set_other, get_or-set_same}
use Rattle.std.proofs.lemmas.Option.{slice_get_within}
use Rattle.std.proofs.lemmas.Bool.{cases_eq}
use Rattle.std.proofs.lemmas.List.{length-set}
use Rattle.node_journal.specs.Closed.{ClosedNode}
use Rattle.node_journal.specs.declared.entry.Entry.{Entry}
use Rattle.run_record.specs.Giving.{Supplies, Needs}
use Rattle.run_record.specs.Journals.{journal_of}
use Rattle.run_record.specs.Order.{IsGivenBy, CanComeNext, with_turn}
use Rattle.run_record.specs.Passing.{AreNextPlaces, NoneIsPast}
use Rattle.run_record.specs.Refusal.{IsStuck, IsStuckAt, Lists}
use Rattle.run_record.specs.declared.order_fault.Place.{Place}
use Rattle.run_record.specs.declared.giving.Giver.{Giver}
use Rattle.run_record.specs.declared.order.Turn.{Turn}
use Rattle.run_record.proofs.Ahead.{ahead, ahead_less}

-- an entry that is ready isn't at a place that is stuck
not_there : (closed : List ClosedNode) (next : List ℕ) (places : List Place) (at : Place)
    (entry : Entry) (giver : Option Giver) → NoneIsPast closed next → IsStuck closed places
    → (s : IsStuckAt closed places at) → s.entry ≡ entry
    → IsGivenBy closed next entry.event giver → ⊥
not_there closed next places at entry None past stuck s is given =
    given (subst (λ e. Needs e.event) is s.needs)
not_there closed next places at entry (Some g) past stuck s is given =
    let gives = subst (λ e. Supplies given.entry e.event) (sym is) (g.at, given.gives) in
    let w = s.waits g.node g.place given.entry given.there gives in
    let le : slice_index next g.node ≤ w.0 = past places stuck g.node w.0 w.1.0 in
    omega (arith, given.passed, w.1.1)

split : (m r : ℕ) → m ≤ r → (m < r) ⊎ (m ≡ r)
split m r le = elim (cases_eq m r) [ inl e ↦ inr e | inr ne ↦ inl (omega (arith, ne)) ]

pub past_step : (closed : List ClosedNode) (next : List ℕ) (turn : Turn)
    → NoneIsPast closed next → CanComeNext closed next turn
    → NoneIsPast closed (with_turn next turn.node)
past_step closed next turn past ready places stuck k r l =
    let n = turn.node in
    elim (cases_eq k n) [
      | inl same ↦
          let before : slice_index next n ≤ r =
          subst (λ m. slice_index next m ≤ r) same (past places stuck k r l) in
          let lt : n < length next = ready.node in
          let here : get_or (set next n (get_or next n 0 + 1)) n 0 ≡ get_or next n 0 + 1 =
          rw get_or-set_same in
          elim (split (slice_index next n) r before) [
            | inl less ↦
                subst (λ m. get_or (set next n (get_or next n 0 + 1)) m 0 ≤ r) (sym same)
                (omega (arith, here))
            | inr at ↦
                let s = stuck.each n r (subst (λ m. Lists places m r) same l) in
                let is : s.entry ≡ ready.entry = cc (s.there, ready.there, at) in
                absurd (not_there closed next places (record { node = n; place = r }) ready.entry
                turn.giver past stuck s is ready.given)
          ]
      | inr other ↦
          let ne : k ≢ n = other in
          subst (λ v. v ≤ r) (sym (get_or-set_other next n k (get_or next n 0 + 1) 0 ne))
          (past places stuck k r l)
    ]

-- the entry that is next is one of the journal
pub next_within : (closed : List ClosedNode) (next : List ℕ) (turn : Turn)
    → CanComeNext closed next turn → get_or next turn.node 0 < length (journal_of closed turn.node)
next_within closed next turn ready = slice_get_within (journal_of closed turn.node)
    (get_or next turn.node 0) ready.entry ready.there

pub ahead_step : (closed : List ClosedNode) (next : List ℕ) (turn : Turn)
    → CanComeNext closed next turn
    → ahead (journal_of closed) 0 (with_turn next turn.node) < ahead (journal_of closed) 0 next
ahead_step closed next turn ready =
    let n = turn.node in
    ahead_less (journal_of closed) 0 next n ready.node (λ k is.
    let same : k ≡ n = omega arith in
    subst (λ m. get_or next n 0 < length (journal_of closed m)) (sym same)
    (next_within closed next turn ready))

pub places_step : (closed : List ClosedNode) (next : List ℕ) (turn : Turn)
    → AreNextPlaces closed next → CanComeNext closed next turn
    → AreNextPlaces closed (with_turn next turn.node)
places_step closed next turn are ready =
    let n = turn.node in
    record {
      number = length-set next n (get_or next n 0 + 1) ∙ are.number;
      within = λ k. elim (cases_eq k n) [
        | inl same ↦
            let lt : n < length next = ready.node in
            let here : get_or (set next n (get_or next n 0 + 1)) n 0 ≡ get_or next n 0 + 1 =
            rw get_or-set_same in
            let less = next_within closed next turn ready in
            subst
            (λ m. get_or (set next n (get_or next n 0 + 1)) m 0 ≤ length (journal_of closed m))
            (sym same) (omega (arith, here, less))
        | inr other ↦
            let ne : k ≢ n = other in
            subst (λ v. v ≤ length (journal_of closed k))
            (sym (get_or-set_other next n k (get_or next n 0 + 1) 0 ne)) (are.within k)
      ];
    }
