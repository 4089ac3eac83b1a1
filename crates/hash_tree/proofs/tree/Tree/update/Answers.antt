use Rattle.std.proofs.Common.{◌∙◌}
use Rattle.std.specs.Bool.{passes}
use Rattle.std.specs.FinMap.{is_sorted}
use Rattle.meta_types.specs.Order.{prefix_cmp}
use Rattle.meta_store.proofs.Kept.{find_row}
use Rattle.meta_store.proofs.Maps.{always}
use Rattle.hash_tree.proofs.ByPrefix.{parts_put, table_put}
use Rattle.hash_tree.proofs.tree.Tree.update.Goals as goal

pub returns-in_err-put_part-clause-absent : goal.returns-in_err-put_part-clause-absent
returns-in_err-put_part-clause-absent c =
    let parts = c.self.inside.parts.entries in
    always c.from_residual.result (rw (← c.self.view_is) (
    find_row c.args.key.now parts (passes (is_sorted prefix_cmp parts) c.self.invariant.rising) ∙ c.in_err-put_part.ensures.absent))

pub invariant_of-self-2 : goal.invariant_of-self-2
invariant_of-self-2 c =
    let parts = c.self.inside.parts.entries in
    let new = c.put_part.new.parts.entries in
    parts_put c.args.key.now c.args.digest parts new c.self.invariant c.in_ok-put_part.ensures.value

pub returns-clause-value : goal.returns-clause-value
returns-clause-value c =
    rw (← c.self.view_is) (table_put c.args.key.now c.args.digest c.self.inside.parts.entries c.put_part.new.parts.entries c.self.invariant c.in_ok-put_part.ensures.value)
