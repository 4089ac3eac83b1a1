-- If nobody can go on, all have ended, or the next places are stuck.
use Rattle.std.proofs.Common.{◌≡◌, ◌<◌, ◌≤◌, ℕ, List, [], ◌∷◌, ◌++◌, zero, suc, length, get_or, slice_index, Some, refl, ap, ◌∙◌, inl, inr, arith}
use Rattle.std.proofs.lemmas.Option.{slice_get_within}
use Rattle.std.proofs.lemmas.Bool.{cases_lt}
use Rattle.node_journal.specs.Closed.{ClosedNode}
use Rattle.node_journal.specs.declared.entry.Entry.{Entry}
use Rattle.run_record.specs.Journals.{HaveNodes, entry_at, journal_of}
use Rattle.run_record.specs.Order.{HasEnded}
use Rattle.run_record.specs.Passing.{AllWait, AreHeads, AreNextPlaces, NoneIsPast}
use Rattle.run_record.specs.Refusal.{IsStuck, Lists, NoneIsStuck}
use Rattle.run_record.specs.declared.order_fault.Place.{Place}

-- if all entries have come, nothing is stuck
pub ended_unstuck : (closed : List ClosedNode) (next : List ℕ) → NoneIsPast closed next
    → ((n : ℕ) → HasEnded closed next n) → NoneIsStuck closed
ended_unstuck closed next past ended [] stuck = absurd (omega (arith, stuck.some))
ended_unstuck closed next past ended (p ∷ later) stuck =
    let here : Lists (p ∷ later) p.node p.place = record { at = 0; there = refl } in
    let s = stuck.each p.node p.place here in
    let within = slice_get_within (journal_of closed p.node) p.place s.entry s.there in
    let le : slice_index next p.node ≤ p.place = past (p ∷ later) stuck p.node p.place here in
    omega (arith, within, le, ended p.node)

-- if no place is listed, all have ended
pub all_ended : (closed : List ClosedNode) (next : List ℕ) (ps : List Place) → HaveNodes closed
    → AreNextPlaces closed next → AreHeads closed next (length next) ps → length ps ≡ 0
    → (n : ℕ) → HasEnded closed next n
all_ended closed next ps nodes are heads empty n =
    elim (cases_lt (slice_index next n) (length (journal_of closed n))) [
      | inl less ↦ elim (cases_lt n (length next)) [
        | inl lt ↦
            let l = heads.listed n lt less in
            let at : Place = record { node = n; place = slice_index next n } in
            let some = slice_get_within ps l.at at l.there in
            absurd (omega (arith, some, empty))
        | inr ge ↦ absurd (
            let none = nodes n (omega (arith, ge, are.number)) in
            omega (arith, less, ap (λ (l : List Entry). length l) none))
      ]
      | inr ge ↦ ge
    ]

-- an entry is of one of the nodes
pub nodes_of : (closed : List ClosedNode) (m q : ℕ) (e : Entry) → HaveNodes closed
    → entry_at closed m q ≡ Some e → m < length closed
nodes_of closed m q e nodes there = elim (cases_lt m (length closed)) [
  | inl lt ↦ lt
  | inr ge ↦
      let within = slice_get_within (journal_of closed m) q e there in
      absurd (omega (arith, within, ap (λ (l : List Entry). length l) (nodes m ge)))
]

-- nobody can go on, and some have entries left: these wait for each other
pub are_stuck : (closed : List ClosedNode) (next : List ℕ) (ps : List Place) → HaveNodes closed
    → AreNextPlaces closed next → AllWait closed next (length next)
    → AreHeads closed next (length next) ps → 1 ≤ length ps → IsStuck closed ps
are_stuck closed next ps nodes are wait heads some = record {
  some = some;
  once = heads.rise;
  each = λ n p l.
      let o = heads.only n p l in
      elim (wait n o.0) [
        | inl ended ↦ absurd (omega (arith, ended, o.1.0, o.1.1))
        | inr b ↦ record {
          node = omega (arith, o.0, are.number);
          entry = b.entry;
          there = ap (λ q. entry_at closed n q) o.1.0 ∙ b.there;
          needs = b.needs;
          waits = λ m q e there gives.
              let m_in = nodes_of closed m q e nodes there in
              let within = slice_get_within (journal_of closed m) q e there in
              let behind : slice_index next m ≤ q = elim (cases_lt q (slice_index next m)) [
                | inl lt ↦ absurd (b.none m q e lt there gives)
                | inr ge ↦ ge
              ] in (
                slice_index next m,
                (
                  heads.listed m (omega (arith, m_in, are.number)) (omega (arith, within, behind)),
                  behind,
                ),
              );
        }
      ];
}

-- one more first place
pub zeros_more : (xs : List ℕ) → ((n : ℕ) → get_or xs n 0 ≡ 0)
    → (n : ℕ) → get_or (xs ++ 0 ∷ []) n 0 ≡ 0
zeros_more [] zeros zero = refl
zeros_more [] zeros (suc n) = refl
zeros_more (x ∷ xs) zeros zero = zeros zero
zeros_more (x ∷ xs) zeros (suc n) = zeros_more xs (λ k. zeros (suc k)) n
