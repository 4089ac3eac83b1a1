use Rattle.std.proofs.Common.{T, sym, subst, ◌∙◌}
use Rattle.std.specs.Bool.{passes}
use Rattle.std.specs.FinMap.{is_sorted, put}
use Rattle.std.specs.FinMap.Entries.{is_sorted-put}
use Rattle.meta_types.specs.Order.{bytes_cmp}
use Rattle.meta_store.specs.Kept.{AreRows}
use Rattle.meta_store.proofs.Kept.{bytes_total, IsNamed}
use Rattle.meta_store.proofs.Maps.{All-put, always, inserted, is_true, looked_up, none_of}
use Rattle.meta_store.proofs.rows.Rows.hold.Goals as goal

pub returns-in_err-before-clause-absent : goal.returns-in_err-before-clause-absent
returns-in_err-before-clause-absent c =
    always c.from_residual.result (rw (← c.self.view_is) (sym (looked_up bytes_cmp c.args.key c.self.inside.by_key.entries) ∙ c.in_err-before.ensures.absent))

pub invariant_of-self-2 : goal.invariant_of-self-2
invariant_of-self-2 c =
    let before = c.self.inside.by_key.entries in
    let sorted : T (is_sorted bytes_cmp before) = passes (is_sorted bytes_cmp before) c.self.invariant.rising in
    subst AreRows
    (sym (c.in_ok-before.ensures.entries ∙ inserted bytes_cmp c.args.key c.args.object before))
    (record {
      rising = is_true (is_sorted bytes_cmp (put bytes_cmp c.args.key c.args.object before)) (is_sorted-put bytes_cmp bytes_total c.args.key c.args.object before sorted);
      named = All-put bytes_cmp IsNamed c.args.key c.args.object before c.self.invariant.named c.requires.in_range (λ row named. named);
    })

pub returns-clause-value : goal.returns-clause-value
returns-clause-value c =
    rw (← c.self.view_is) (c.in_ok-before.ensures.entries ∙ inserted bytes_cmp c.args.key c.args.object c.self.inside.by_key.entries)

pub returns-clause-is_new : goal.returns-clause-is_new
returns-clause-is_new c =
    let found = c.in_ok-before.ensures.old ∙ looked_up bytes_cmp c.args.key c.self.inside.by_key.entries in
    rw (← c.self.view_is, ← found) (none_of c.in_ok-before.before c.is_none.result c.is_none.ensures)
