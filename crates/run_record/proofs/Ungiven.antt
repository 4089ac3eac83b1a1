-- Entries that need what no entry gives.
use Rattle.std.proofs.Common.{◌≡◌, ◌<◌, ◌≤◌, ◌+◌, ℕ, List, length, slice_get, Option, Some, None, IfSome, IsNone, IsTrue, ◌↔◌, Bool, true, false, not, refl, sym, ap, ◌∙◌, inl, inr, arith}
use Rattle.std.proofs.lemmas.Option.{slice_get_within}
use Rattle.std.proofs.lemmas.Bool.{cases_eq}
use Rattle.std.specs.Option.{is_some}
use Rattle.node_events.specs.declared.event.NodeEvent.{NodeEvent}
use Rattle.node_journal.specs.Closed.{ClosedNode}
use Rattle.node_journal.specs.declared.entry.Entry.{Entry}
use Rattle.run_record.specs.Giving.{Needs}
use Rattle.run_record.specs.Journals.{HaveNodes, journal_of}
use Rattle.run_record.specs.Order.{IsPassedGiver}
use Rattle.run_record.specs.Passing.{AreEnds, NonePassed}
use Rattle.run_record.specs.Refusal.{IsUngiven, IsUnsent, NoneIsUnsent}
use Rattle.run_record.specs.declared.giving.Giver.{Giver}
use Rattle.run_record.proofs.Stalling.{nodes_of}

-- an entry that was looked for among all
pub ungiven : (closed : List ClosedNode) (ends : List ℕ) (event : NodeEvent) → AreEnds closed ends
    → Needs event → NonePassed closed ends event → IsUngiven closed event
ungiven closed ends event are needs none = record {
  needs = needs;
  none = λ m q e there gives. none m q e
      (let within = slice_get_within (journal_of closed m) q e there in
      omega (arith, within, are.behind m)) there gives;
}

pub not_ungiven : (closed : List ClosedNode) (ends : List ℕ) (event : NodeEvent) (g : Giver)
    → IsPassedGiver closed ends event g → IsUngiven closed event → ⊥
not_ungiven closed ends event g passed un =
    un.none g.node g.place passed.entry passed.there (g.at, passed.gives)

-- who looked among all knows whether something is needed that no entry gives
pub by_search : (closed : List ClosedNode) (ends : List ℕ) (event : NodeEvent)
    (found : Option Giver) (none : Bool) → AreEnds closed ends → Needs event
    → IfSome found (IsPassedGiver closed ends event)
    → (IsNone found → NonePassed closed ends event) → is_some found ≡ not none
    → IsTrue none ↔ IsUngiven closed event
by_search closed ends event None true are needs some all is =
    ((λ _. ungiven closed ends event are needs (all refl)), (λ _. refl))
by_search closed ends event None false are needs some all is = absurd (cc)
by_search closed ends event (Some g) true are needs some all is = absurd (cc)
by_search closed ends event (Some g) false are needs some all is =
    ((λ h. absurd (cc)), (λ un. absurd (not_ungiven closed ends event g some un)))

-- those of one more node
pub one_node_more : (closed : List ClosedNode) (n : ℕ) (journal : List Entry)
    → journal ≡ journal_of closed n → ((k p : ℕ) → k < n → IsUnsent closed k p → ⊥)
    → ((p : ℕ) (e : Entry) → slice_get journal p ≡ Some e → IsUngiven closed e.event → ⊥)
    → (k p : ℕ) → k < n + 1 → IsUnsent closed k p → ⊥
one_node_more closed n journal is before here k p lt un = elim (cases_eq k n) [
  | inl same ↦
      let journals = is ∙ ap (λ m. journal_of closed m) (sym same) in
      here p un.0 (ap (λ (l : List Entry). slice_get l p) journals ∙ un.1.0) un.1.1
  | inr ne ↦ before k p (omega (arith, ne)) un
]

pub none_unsent : (closed : List ClosedNode) (n : ℕ) → HaveNodes closed → length closed ≤ n
    → ((k p : ℕ) → k < n → IsUnsent closed k p → ⊥) → NoneIsUnsent closed
none_unsent closed n nodes all none k p un =
    none k p (let lt = nodes_of closed k p un.0 nodes un.1.0 in omega arith) un
