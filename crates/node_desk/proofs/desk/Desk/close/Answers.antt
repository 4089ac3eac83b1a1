use Rattle.std.proofs.Common.{rules, ◌≡◌, List, All, true, false, refl, sym, ap, subst, ◌∙◌}
use Rattle.node_readers.specs.Published.{Published}
use Rattle.node_call.proofs.Runs.{run_of}
use Rattle.node_journal.specs.Closed.{EndsWithTable}
use Rattle.node_desk.specs.Closing.{IsWithin}
use Rattle.node_desk.proofs.desk.Desk.close.Goals as goal

pub returns-clause-run : goal.returns-clause-run
returns-clause-run g c =
    let s = c.self.inside in
    let i = c.self.invariant.0 in
    subst EndsWithTable (sym c.from_parts.ensures) (record {
      end = s.state;
      run = run_of s.journal.items i.published s.base s.state i.run;
      table = sym c.into_store-table.ensures;
    })

pub returns-clause-readers : goal.returns-clause-readers
returns-clause-readers g c =
    subst (λ (l : List Published). All (IsWithin l) c.args.readers.now) (ap (λ v. v.list) c.self.view_is)
    (c.if-not-all_within.ensures.0 refl)

pub returns-then-not-all_within-clause-refused : goal.returns-then-not-all_within-clause-refused
returns-then-not-all_within-clause-refused g c = (
  search rules,
  (λ all.
      let here = subst (λ (l : List Published). All (IsWithin l) c.args.readers.now) (sym (ap (λ v. v.list) c.self.view_is)) all in
      let is : c.all_within.result ≡ true = c.all_within.ensures.1 here in
      let clash : true ≡ false = sym is ∙ c.if-not-all_within.true in
      absurd (cc)),
)
