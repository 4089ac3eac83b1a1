use Rattle.std.proofs.Common.{◌≡◌, Some, T, sym, subst, ◌∙◌}
use Rattle.std.specs.Bool.{passes}
use Rattle.std.specs.FinMap.{find, is_sorted}
use Rattle.meta_types.specs.Order.{bytes_cmp}
use Rattle.meta_store.specs.Kept.{AreRows}
use Rattle.meta_store.proofs.Holding.{rows_with}
use Rattle.meta_store.proofs.Kept.{bytes_total}
use Rattle.meta_store.proofs.Maps.{looked_up, written}
use Rattle.meta_store.proofs.rows.Rows.replace.Goals as goal

pub returns-in_default-clause-absent : goal.returns-in_default-clause-absent
returns-in_default-clause-absent c =
    rw (← c.self.view_is) (sym (looked_up bytes_cmp c.args.key.now c.self.inside.by_key.entries) ∙ sym c.in_default.ensures.value)

pub invariant_of-self-2 : goal.invariant_of-self-2
invariant_of-self-2 c =
    let es = c.self.inside.by_key.entries in
    let key = c.args.key.now in
    let held = c.in-Some.held.now in
    let sorted : T (is_sorted bytes_cmp es) = passes (is_sorted bytes_cmp es) c.self.invariant.rising in
    let found : find bytes_cmp key es ≡ Some held = sym (looked_up bytes_cmp key es) ∙ sym c.in-Some.ensures.value in
    subst AreRows
    (sym ((c.get_mut.follows.holds c.replace.new.dest).0 ∙ written bytes_cmp bytes_total key held c.replace.new.dest es sorted found))
    (rows_with key held c.replace.new.dest es found c.self.invariant)

pub returns-clause-value : goal.returns-clause-value
returns-clause-value c =
    let es = c.self.inside.by_key.entries in
    let key = c.args.key.now in
    let held = c.in-Some.held.now in
    let sorted : T (is_sorted bytes_cmp es) = passes (is_sorted bytes_cmp es) c.self.invariant.rising in
    let found : find bytes_cmp key es ≡ Some held = sym (looked_up bytes_cmp key es) ∙ sym c.in-Some.ensures.value in
    rw (← c.self.view_is, ← c.replace.ensures.after) (
    (c.get_mut.follows.holds c.replace.new.dest).0 ∙ written bytes_cmp bytes_total key held c.replace.new.dest es sorted found)

pub returns-clause-before : goal.returns-clause-before
returns-clause-before c =
    rw (← c.self.view_is, c.replace.ensures.value) (sym (looked_up bytes_cmp c.args.key.now c.self.inside.by_key.entries) ∙ sym c.in-Some.ensures.value)
