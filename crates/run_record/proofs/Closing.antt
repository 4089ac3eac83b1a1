-- Journals that are runs which end with their tables ran as told.
use Rattle.std.proofs.Common.{◌≡◌, ℕ, cond, eqb, List, [], ◌∷◌, map, All, refl, sym, ap, subst, ◌∙◌, inl, inr}
use Rattle.std.proofs.lemmas.Bool.Decides.{eqb_tells}
use Rattle.std.proofs.lemmas.List.Elements.{All-head, All-tail}
use Rattle.node_core.specs.Node.{NodeParts, opening}
use Rattle.node_core.specs.Run.{IsRun}
use Rattle.node_journal.specs.declared.entry.Entry.{Entry}
use Rattle.node_journal.specs.Closed.{AreWhole, ClosedNode, EndsWithTable, IsWhole, number_of}
use Rattle.node_journal.specs.Entry.{step_of}
use Rattle.run_record.specs.Journals.{journal_of, last_table}
use Rattle.run_record.specs.Record.{IsUnequal, RanAsTold, WhatIsClosedIsEqual}

ran_in : (count n : ℕ) (closed : List ClosedNode) → All (IsWhole count) closed → All EndsWithTable closed → RanAsTold closed n
ran_in count n [] whole ends = record { end = opening n 1 []; ran = refl; table = refl }
ran_in count n (c ∷ cs) whole ends = elim (eqb_tells (number_of c) n) [
  | inl same ↦
      let journal : journal_of (c ∷ cs) n ≡ c.journal = ap (λ b. cond b c.journal (journal_of cs n)) same.0 in
      let table : last_table (c ∷ cs) n ≡ c.table = ap (λ b. cond b c.table (last_table cs n)) same.0 in
      let base : c.base ≡ opening n 1 [] = (All-head (IsWhole count) c cs whole).base ∙ ap (λ m. opening m 1 []) same.1 in
      let end = All-head EndsWithTable c cs ends in
      record {
        end = end.end;
        ran = subst (λ (es : List Entry). IsRun (opening n 1 []) (map step_of es) end.end) (sym journal) (subst (λ (b : NodeParts). IsRun b (map step_of c.journal) end.end) base end.run);
        table = end.table ∙ sym table;
      }
  | inr other ↦
      let journal : journal_of (c ∷ cs) n ≡ journal_of cs n = ap (λ b. cond b c.journal (journal_of cs n)) other.0 in
      let table : last_table (c ∷ cs) n ≡ last_table cs n = ap (λ b. cond b c.table (last_table cs n)) other.0 in
      let told = ran_in count n cs (All-tail (IsWhole count) c cs whole) (All-tail EndsWithTable c cs ends) in
      record {
        end = told.end;
        ran = subst (λ (es : List Entry). IsRun (opening n 1 []) (map step_of es) told.end) (sym journal) told.ran;
        table = told.table ∙ sym table;
      }
]

pub what_is_closed_is_equal : WhatIsClosedIsEqual
what_is_closed_is_equal closed n whole ends unequal = unequal.otherwise (ran_in _ n closed whole.whole ends)
