use Rattle.std.proofs.Common.{◌≡◌, [], true, All, fold, sym, ap, subst, ◌∙◌}
use Rattle.std.specs.Bool.{passes}
use Rattle.std.specs.FinMap.{is_sorted}
use Rattle.std.proofs.lemmas.Grind.{fold-append}
use Rattle.std.proofs.lemmas.List.Elements.{All-head, All-tail}
use Rattle.meta_types.specs.Order.{key_cmp}
use Rattle.meta_store.specs.Kept.{rows_under, table_of}
use Rattle.meta_store.specs.Table.{Table}
use Rattle.node_readers.specs.Spread.{IsSpreadOf, with_row}
use Rattle.node_readers.proofs.Spreading.{HeldPart, held_parts, refilled}
use Rattle.node_readers.proofs.spread.SpreadTable.of.Goals as goal

pub loop-prefix-init : goal.loop-prefix-init
loop-prefix-init c =
    let same = c.into_iter-prefix-iterator.ensures.into_iter_gives in
    let all = c.iter-prefix-items.result in (
      ([], (c.in_ok-spread.ensures, ap (λ parts. fold with_row [] (table_of parts)) same ∙ ap (fold with_row []) c.iter-prefix-items.ensures.rows)),
      subst (All HeldPart) (sym same) (held_parts all c.iter-prefix-items.ensures.parts.table.held),
    )

pub hold_rows-requires : goal.hold_rows-requires
hold_rows-requires c = record { held = All-head HeldPart (c.in-Some.prefix.now, c.in-Some.rows.now) c.next.new.self (subst (All HeldPart) c.in-Some.ensures.steps c.loop-prefix.invariant.1) }

pub loop-prefix-preserved : goal.loop-prefix-preserved
loop-prefix-preserved c =
    let so_far = c.loop-prefix.invariant.0 in
    let steps = c.in-Some.ensures.steps in
    let rows = rows_under c.in-Some.prefix.now c.in-Some.rows.now in (
      (
        fold with_row so_far.0 rows,
        (
          c.in_ok-hold_rows.ensures so_far.0 so_far.1.0,
          sym (fold-append with_row so_far.0 rows (table_of c.next.new.self)) ∙ ap (λ parts. fold with_row so_far.0 (table_of parts)) (sym steps) ∙ so_far.1.1,
        ),
      ),
      All-tail HeldPart (c.in-Some.prefix.now, c.in-Some.rows.now) c.next.new.self (subst (All HeldPart) steps c.loop-prefix.invariant.1),
    )

pub returns : goal.returns
returns c =
    let so_far = c.loop-prefix.invariant.0 in
    let rising : is_sorted key_cmp c.args.store.now ≡ true =
    subst (λ t. is_sorted key_cmp t ≡ true) c.iter-prefix-items.ensures.rows c.iter-prefix-items.ensures.parts.table.rising in
    subst (λ (t : Table). IsSpreadOf t c.loop-prefix.spread)
    (ap (λ parts. fold with_row so_far.0 (table_of parts)) (sym c.in-None.ensures.steps.0) ∙ so_far.1.1 ∙ refilled [] c.args.store.now (passes (is_sorted key_cmp c.args.store.now) rising))
    so_far.1.0
