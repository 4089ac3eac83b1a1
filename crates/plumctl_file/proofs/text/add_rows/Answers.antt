use Rattle.std.proofs.Common.{◌≡◌, ◌++◌, All, List, rules, sym, subst, ap, ◌∙◌, append-nil}
use Rattle.std.specs.List.{flat_map}
use Rattle.std.proofs.lemmas.List.Elements.{All-head, All-tail}
use Rattle.dvvset.specs.Object.{Entry}
use Rattle.meta_store.specs.Kept.{RowsOf, rows_under}
use Rattle.meta_store.proofs.Kept.{IsNamed}
use Rattle.plumctl_file.specs.Report.{key_line}
use Rattle.plumctl_file.proofs.Rows.{row_added}
use Rattle.plumctl_file.proofs.text.add_rows.Goals as goal

pub loop-key-init : goal.loop-key-init
loop-key-init c =
    let all = c.into_iter-key-iterator.ensures.into_iter_gives ∙ c.iter-key-items.ensures.rows in
    record {
      named = subst (All IsNamed) (sym all) c.iter-key-items.ensures.in_range.named;
      text = ap (λ (rows : RowsOf (List Entry)). c.args.text.now.items ++ flat_map key_line (rows_under c.args.prefix.now rows)) all;
    }

pub under-key-requires : goal.under-key-requires
under-key-requires c =
    let named : IsNamed (c.in-Some.key.now, c.in-Some.object.now) = All-head IsNamed (c.in-Some.key.now, c.in-Some.object.now) c.next.new.self (subst (All IsNamed) c.in-Some.ensures.steps c.loop-key.invariant.named) in
    record { in_range = rw (c.in_ok-copy-2.ensures) named }

pub loop-key-preserved : goal.loop-key-preserved
loop-key-preserved c =
    let whole = c.args.text.now.items ++ flat_map key_line (rows_under c.args.prefix.now c.args.rows.now) in
    let added : c.add_key.new.text.items ≡ c.loop-key.text.items ++ key_line (c.under-key.result, c.in-Some.object.now) = search rules in
    let key : c.under-key.result ≡ record { prefix = c.args.prefix.now; key = c.in-Some.key.now } = search rules in
    let before = subst (λ (rows : RowsOf (List Entry)). c.loop-key.text.items ++ flat_map key_line (rows_under c.args.prefix.now rows) ≡ whole) c.in-Some.ensures.steps c.loop-key.invariant.text in
    record {
      named = All-tail IsNamed (c.in-Some.key.now, c.in-Some.object.now) c.next.new.self (subst (All IsNamed) c.in-Some.ensures.steps c.loop-key.invariant.named);
      text = row_added c.args.prefix.now c.under-key.result c.in-Some.key.now c.in-Some.object.now c.next.new.self c.loop-key.text.items c.add_key.new.text.items whole added key before;
    }

pub loop-key-preserved-in_ok-add_key : goal.loop-key-preserved-in_ok-add_key
loop-key-preserved-in_ok-add_key c =
    let whole = c.args.text.now.items ++ flat_map key_line (rows_under c.args.prefix.now c.args.rows.now) in
    let added : c.add_key.new.text.items ≡ c.loop-key.text.items ++ key_line (c.under-key.result, c.in-Some.object.now) = search rules in
    let key : c.under-key.result ≡ record { prefix = c.args.prefix.now; key = c.in-Some.key.now } = search rules in
    let before = subst (λ (rows : RowsOf (List Entry)). c.loop-key.text.items ++ flat_map key_line (rows_under c.args.prefix.now rows) ≡ whole) c.in-Some.ensures.steps c.loop-key.invariant.text in
    record {
      named = All-tail IsNamed (c.in-Some.key.now, c.in-Some.object.now) c.next.new.self (subst (All IsNamed) c.in-Some.ensures.steps c.loop-key.invariant.named);
      text = row_added c.args.prefix.now c.under-key.result c.in-Some.key.now c.in-Some.object.now c.next.new.self c.loop-key.text.items c.add_key.new.text.items whole added key before;
    }

pub returns : goal.returns
returns c =
    let whole = c.args.text.now.items ++ flat_map key_line (rows_under c.args.prefix.now c.args.rows.now) in
    sym (append-nil c.loop-key.text.items)
    ∙ subst (λ (rows : RowsOf (List Entry)). c.loop-key.text.items ++ flat_map key_line (rows_under c.args.prefix.now rows) ≡ whole) c.in-None.ensures.steps.0 c.loop-key.invariant.text
