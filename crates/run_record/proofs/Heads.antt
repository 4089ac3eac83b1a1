-- One more place in a list of places.
use Rattle.std.proofs.Common.{◌≡◌, ◌<◌, ◌≤◌, ◌+◌, ◌⊎◌, ℕ, zero, suc, List, [], ◌∷◌, ◌++◌, length, slice_get, slice_index, Some, refl, sym, subst, ap, inl, inr, arith, ◌∙◌}
use Rattle.std.proofs.lemmas.Bool.{cases_eq}
use Rattle.node_journal.specs.Closed.{ClosedNode}
use Rattle.run_record.specs.Journals.{journal_of}
use Rattle.run_record.specs.Passing.{AreHeads}
use Rattle.run_record.specs.Refusal.{Lists, RiseFrom}
use Rattle.run_record.specs.declared.order_fault.Place.{Place}

rise_more : (low : ℕ) (ps : List Place) (at : Place) → RiseFrom low ps
    → ((n p : ℕ) → Lists ps n p → n < at.node) → low ≤ at.node → RiseFrom low (ps ++ at ∷ [])
rise_more low [] at rise below le = (le, tt)
rise_more low (p ∷ ps) at rise below le =
    let lt : p.node < at.node = below p.node p.place (record { at = 0; there = refl }) in (
      rise.0,
      rise_more (p.node + 1) ps at rise.1
          (λ n q l. below n q (record { at = suc l.at; there = l.there })) (omega arith),
    )

still : (ps : List Place) (x y : Place) (k : ℕ) → slice_get ps k ≡ Some y
    → slice_get (ps ++ x ∷ []) k ≡ Some y
still [] x y k h = absurd (cc)
still (p ∷ ps) x y zero h = h
still (p ∷ ps) x y (suc k) h = still ps x y k h

at_last : (ps : List Place) (x : Place) → slice_get (ps ++ x ∷ []) (length ps) ≡ Some x
at_last [] x = refl
at_last (p ∷ ps) x = at_last ps x

back : (ps : List Place) (x y : Place) (k : ℕ) → slice_get (ps ++ x ∷ []) k ≡ Some y
    → (slice_get ps k ≡ Some y) ⊎ (x ≡ y)
back [] x y zero h = inr (cc)
back [] x y (suc k) h = absurd (cc)
back (p ∷ ps) x y zero h = inl h
back (p ∷ ps) x y (suc k) h = back ps x y k h

split : (k n : ℕ) → k < n + 1 → (k < n) ⊎ (k ≡ n)
split k n lt = elim (cases_eq k n) [ inl e ↦ inr e | inr ne ↦ inl (omega (arith, ne)) ]

-- the next node, whose next entry is there
pub heads_more : (closed : List ClosedNode) (next : List ℕ) (n : ℕ) (ps : List Place) (at : Place)
    → AreHeads closed next n ps → at.node ≡ n → at.place ≡ slice_index next n
    → slice_index next n < length (journal_of closed n)
    → AreHeads closed next (n + 1) (ps ++ at ∷ [])
heads_more closed next n ps at old node place there =
    let is : at ≡ record { node = n; place = slice_index next n } =
    λ i. record { node = node i; place = place i } in
    record {
      rise = rise_more 0 ps at old.rise
          (λ k q l. let lt : k < n = (old.only k q l).0 in omega arith) (omega arith);
      listed = λ k lt has. elim (split k n lt) [
        | inl less ↦
            let l = old.listed k less has in
            record {
              at = l.at;
              there = still ps at (record { node = k; place = slice_index next k }) l.at l.there;
            }
        | inr same ↦ record {
          at = length ps;
          there = at_last ps at ∙ ap (λ x. Some x)
              (is ∙ λ i. record { node = sym same i; place = slice_index next (sym same i) });
        }
      ];
      only = λ k q l. elim (back ps at (record { node = k; place = q }) l.at l.there) [
        | inl h ↦
            let o = old.only k q (record { at = l.at; there = h }) in
            (omega (arith, o.0), o.1)
        | inr same ↦
            let kn : k ≡ n = sym (ap (λ x. x.node) same) ∙ node in
            let qn : q ≡ slice_index next n = sym (ap (λ x. x.place) same) ∙ place in (
              omega arith,
              (
                qn ∙ ap (λ m. slice_index next m) (sym kn),
                subst (λ m. q < length (journal_of closed m)) (sym kn)
                    (subst (λ m. m < length (journal_of closed n)) (sym qn) there),
              ),
            )
      ];
    }

-- the next node, whose entries have all come
pub heads_same : (closed : List ClosedNode) (next : List ℕ) (n : ℕ) (ps : List Place)
    → AreHeads closed next n ps → length (journal_of closed n) ≤ slice_index next n
    → AreHeads closed next (n + 1) ps
heads_same closed next n ps old ended = record {
  rise = old.rise;
  listed = λ k lt has. elim (split k n lt) [
    | inl less ↦ old.listed k less has
    | inr same ↦ absurd (
        let less : slice_index next n < length (journal_of closed n) =
        subst (λ m. slice_index next m < length (journal_of closed m)) same has in
        omega arith)
  ];
  only = λ k q l. let o = old.only k q l in (omega (arith, o.0), o.1);
}
