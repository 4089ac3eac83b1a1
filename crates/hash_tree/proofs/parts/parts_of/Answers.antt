use Rattle.std.proofs.Common.{◌++◌, All, map, subst, sym, ap, ◌∙◌}
use Rattle.std.proofs.lemmas.List.{append-nil}
use Rattle.std.proofs.lemmas.List.Elements.{All-head, All-tail}
use Rattle.meta_store.specs.Kept.{table_of}
use Rattle.hash_tree.specs.Tree.{digest_rows}
use Rattle.hash_tree.specs.Kept.{AreTreeParts}
use Rattle.hash_tree.proofs.ByPrefix.{HeldPart, are_parts, digested_part, digested_parts, held_parts, part_taken}
use Rattle.hash_tree.proofs.parts.parts_of.Goals as goal

pub loop-prefix-init : goal.loop-prefix-init
loop-prefix-init c =
    let all = c.iter-prefix-items.result in
    let same = c.into_iter-prefix-iterator.ensures.into_iter_gives in (
      all,
      (
        ap (λ xs. xs ++ map digested_part c.into_iter-prefix-iterator.result) c.new-parts.ensures.empty ∙ ap (map digested_part) same,
        (c.iter-prefix-items.ensures.rows, (c.iter-prefix-items.ensures.parts, subst (All HeldPart) (sym same) (held_parts all c.iter-prefix-items.ensures.parts.table.held))),
      ),
    )

pub of_rows-requires : goal.of_rows-requires
of_rows-requires c = record { held = All-head HeldPart (c.in-Some.prefix.now, c.in-Some.rows.now) c.next.new.self (subst (All HeldPart) c.in-Some.ensures.steps c.loop-prefix.invariant.1.1.1.1) }

pub loop-prefix-preserved-in_ok-insert : goal.loop-prefix-preserved-in_ok-insert
loop-prefix-preserved-in_ok-insert c =
    let i = c.loop-prefix.invariant in (
      i.0,
      (
        part_taken c.loop-prefix.parts.entries c.insert-in-loop-prefix.new.self.entries c.in-Some.prefix.now c.in-Some.rows.now c.in_ok-of_rows.field-0 c.next.new.self c.loop-prefix.prefix-iterator i.0 i.1.1.1.0.rising i.1.0 c.in-Some.ensures.steps
            c.in_ok-of_rows.ensures (rw (← c.in_ok-copy.ensures) c.in_ok-insert.ensures.entries),
        (i.1.1.0, (i.1.1.1.0, All-tail HeldPart (c.in-Some.prefix.now, c.in-Some.rows.now) c.next.new.self (subst (All HeldPart) c.in-Some.ensures.steps i.1.1.1.1))),
      ),
    )

pub loop-prefix-preserved : goal.loop-prefix-preserved
loop-prefix-preserved c =
    let i = c.loop-prefix.invariant in (
      i.0,
      (
        part_taken c.loop-prefix.parts.entries c.insert-in-loop-prefix.new.self.entries c.in-Some.prefix.now c.in-Some.rows.now c.in_ok-of_rows.field-0 c.next.new.self c.loop-prefix.prefix-iterator i.0 i.1.1.1.0.rising i.1.0 c.in-Some.ensures.steps
            c.in_ok-of_rows.ensures (rw (← c.in_ok-copy.ensures) c.in_ok-insert.ensures.entries),
        (i.1.1.0, (i.1.1.1.0, All-tail HeldPart (c.in-Some.prefix.now, c.in-Some.rows.now) c.next.new.self (subst (All HeldPart) c.in-Some.ensures.steps i.1.1.1.1))),
      ),
    )

pub returns-clause-parts : goal.returns-clause-parts
returns-clause-parts c =
    let i = c.loop-prefix.invariant in
    subst AreTreeParts (sym (sym (append-nil c.loop-prefix.parts.entries) ∙ ap (λ xs. c.loop-prefix.parts.entries ++ map digested_part xs) (sym c.in-None.ensures.steps.0) ∙ i.1.0)) (are_parts i.0 i.1.1.1.0)

pub returns-clause-rows : goal.returns-clause-rows
returns-clause-rows c =
    let i = c.loop-prefix.invariant in
    ap table_of (sym (append-nil c.loop-prefix.parts.entries) ∙ ap (λ xs. c.loop-prefix.parts.entries ++ map digested_part xs) (sym c.in-None.ensures.steps.0) ∙ i.1.0)
    ∙ digested_parts i.0 ∙ ap digest_rows i.1.1.0
