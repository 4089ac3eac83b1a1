use Rattle.std.proofs.Common.{◌≡◌, ◌<◌, ℕ, length, List, fold, sym, ap, subst, ◌∙◌}
use Rattle.std.proofs.lemmas.List.Elements.{All-head, All-tail}
use Rattle.meta_types.specs.Name.{IsName, Key}
use Rattle.dvvset.specs.Object.{Entry}
use Rattle.meta_store.specs.Kept.{rows_under}
use Rattle.meta_store.specs.Table.{IsHeld, with_object}
use Rattle.node_readers.specs.Spread.{AreHeld, IsSpreadOf, bucket_of, with_row, with_spread}
use Rattle.node_readers.proofs.Spreading.{AreNamed, spread_on}
use Rattle.node_readers.proofs.spread.SpreadTable.hold_rows.Goals as goal

abbrev Named : List ℕ × List Entry → Type 0
Named row = IsName 256 row.0

abbrev Held : List ℕ × List Entry → Type 0
Held row = IsHeld row.1

pub loop-own-init : goal.loop-own-init
loop-own-init c =
    let rows = c.into_iter-own-iterator.ensures.into_iter_gives ∙ c.iter-own-items.ensures.rows in (
      (λ table is. (table, (is, ap (λ r. fold with_row table (rows_under c.args.prefix.now r)) rows))),
      (subst AreHeld (sym rows) c.requires.held, subst AreNamed (sym rows) c.iter-own-items.ensures.in_range.named),
    )

pub under-requires : goal.under-requires
under-requires c = record {
  in_range = subst (IsName 256) (sym c.in_ok-copy-2.ensures)
      (All-head Named (c.in-Some.own.now, c.in-Some.object.now) c.next.new.self (subst AreNamed c.in-Some.ensures.steps c.loop-own.invariant.1.1));
}

pub hold-requires : goal.hold-requires
hold-requires c = record {
  held = subst IsHeld (sym c.in_ok-copy-3.ensures)
      (All-head Held (c.in-Some.own.now, c.in-Some.object.now) c.next.new.self (subst AreHeld c.in-Some.ensures.steps c.loop-own.invariant.1.0));
}

pub loop-own-preserved : goal.loop-own-preserved
loop-own-preserved c =
    let p = c.args.prefix.now in
    let own = c.in-Some.own.now in
    let object = c.in-Some.object.now in
    let steps = c.in-Some.ensures.steps in
    let key : Key = record { prefix = p; key = own } in
    let key_is : c.under-in-loop-own.result ≡ key = c.under-in-loop-own.ensures ∙ (λ i. record { prefix = c.in_ok-copy.ensures i; key = c.in_ok-copy-2.ensures i }) in
    let put : c.hold-in-loop-own.new.self ≡ with_spread key object c.loop-own.self = c.in_ok-hold.ensures.value ∙ (λ i. with_spread (key_is i) (c.in_ok-copy-3.ensures i) c.loop-own.self) in
    let room : bucket_of key < length c.loop-own.self = subst (λ (k : Key). bucket_of k < length c.loop-own.self) key_is c.in_ok-hold.ensures.room in (
      (λ table is.
          let got = c.loop-own.invariant.0 table is in
          (with_object key object got.0, (subst (IsSpreadOf (with_object key object got.0)) (sym put) (spread_on key object c.loop-own.self got.0 room got.1.0), ap (λ r. fold with_row got.0 (rows_under p r)) (sym steps) ∙ got.1.1))),
      (
        All-tail Held (own, object) c.next.new.self (subst AreHeld steps c.loop-own.invariant.1.0),
        All-tail Named (own, object) c.next.new.self (subst AreNamed steps c.loop-own.invariant.1.1),
      ),
    )
