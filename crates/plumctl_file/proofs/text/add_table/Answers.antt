use Rattle.std.proofs.Common.{◌≡◌, ◌++◌, List, rules, sym, subst, ◌∙◌, append-nil}
use Rattle.std.specs.List.{flat_map}
use Rattle.dvvset.specs.Object.{Entry}
use Rattle.meta_store.specs.Kept.{PartsOf, rows_under, table_of}
use Rattle.plumctl_file.specs.Report.{key_line}
use Rattle.plumctl_file.proofs.Rows.{rows_added}
use Rattle.plumctl_file.proofs.text.add_table.Goals as goal

pub loop-prefix-preserved : goal.loop-prefix-preserved
loop-prefix-preserved c =
    let whole = c.args.text.now.items ++ flat_map key_line c.args.table.now in
    let added : c.add_rows.new.text.items ≡ c.loop-prefix.text.items ++ flat_map key_line (rows_under c.in-Some.prefix.now c.in-Some.rows.now) = search rules in
    let before = subst (λ (parts : PartsOf (List Entry)). c.loop-prefix.text.items ++ flat_map key_line (table_of parts) ≡ whole) c.in-Some.ensures.steps c.loop-prefix.invariant in
    rows_added (rows_under c.in-Some.prefix.now c.in-Some.rows.now) (table_of c.next.new.self) c.loop-prefix.text.items c.add_rows.new.text.items whole added before

pub returns : goal.returns
returns c =
    let whole = c.args.text.now.items ++ flat_map key_line c.args.table.now in
    sym (append-nil c.loop-prefix.text.items)
    ∙ subst (λ (parts : PartsOf (List Entry)). c.loop-prefix.text.items ++ flat_map key_line (table_of parts) ≡ whole) c.in-None.ensures.steps.0 c.loop-prefix.invariant
