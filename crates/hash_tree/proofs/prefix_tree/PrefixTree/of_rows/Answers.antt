use Rattle.std.proofs.Common.{List, ℕ, All, subst}
use Rattle.std.specs.Bool.{passes}
use Rattle.std.specs.FinMap.{is_sorted}
use Rattle.std.proofs.lemmas.List.Elements.{All-head, All-tail}
use Rattle.meta_types.specs.Order.{bytes_cmp}
use Rattle.dvvset.specs.Object.{Entry}
use Rattle.meta_store.specs.Table.{IsHeld}
use Rattle.meta_store.proofs.Kept.{IsNamed}
use Rattle.hash_tree.proofs.ByPrefix.{row_taken}
use Rattle.hash_tree.proofs.prefix_tree.PrefixTree.of_rows.Goals as goal

abbrev Held : List ℕ × List Entry → Type 0
Held row = IsHeld row.1

pub object_digest-requires : goal.object_digest-requires
object_digest-requires c = All-head Held (c.in-Some.key.now, c.in-Some.object.now) c.next.new.self (subst (All Held) c.in-Some.ensures.steps c.loop-key.invariant.1.0)

pub hold-requires-clause-in_range : goal.hold-requires-clause-in_range
hold-requires-clause-in_range c = All-head IsNamed (c.in-Some.key.now, c.in-Some.object.now) c.next.new.self (subst (All IsNamed) c.in-Some.ensures.steps c.loop-key.invariant.1.1)

pub loop-key-preserved : goal.loop-key-preserved
loop-key-preserved c =
    let row : List ℕ × List Entry = (c.in-Some.key.now, c.in-Some.object.now) in
    let rows = c.args.rows.now in (
      row_taken c.loop-key.leaves c.hold.new.self c.in-Some.key.now c.in-Some.object.now c.object_digest.result c.next.new.self c.loop-key.key-iterator rows
          (passes (is_sorted bytes_cmp rows) c.iter-key-items.ensures.in_range.rising) c.loop-key.invariant.0 c.in-Some.ensures.steps c.object_digest.ensures c.in_ok-hold.ensures.value,
      (
        All-tail Held row c.next.new.self (subst (All Held) c.in-Some.ensures.steps c.loop-key.invariant.1.0),
        All-tail IsNamed row c.next.new.self (subst (All IsNamed) c.in-Some.ensures.steps c.loop-key.invariant.1.1),
      ),
    )
