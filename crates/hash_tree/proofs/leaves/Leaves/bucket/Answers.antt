use Rattle.std.proofs.Common.{List, [], ap, map, sym, ◌∙◌}
use Rattle.frame_fields.specs.declared.keys.KeyDigest.{KeyDigest}
use Rattle.hash_tree.specs.Tree.{OwnRows}
use Rattle.hash_tree.proofs.ByLeaf.{leaf_rises, rows_absent, rows_found}
use Rattle.hash_tree.proofs.leaves.Leaves.bucket.Goals as goal

abbrev listed : OwnRows → List KeyDigest
listed rows = map (λ row. record { key = row.0; digest = row.1 }) rows

pub returns-in-Some : goal.returns-in-Some
returns-in-Some c =
    let leaves = c.self.inside.by_number.entries in
    let own = c.rows.ensures ∙ ap listed (sym (rows_found c.args.leaf leaves c.self.invariant c.in-Some.bucket.now c.in-Some.ensures.value)) in
    record { value = rw (← c.self.view_is) own; rising = leaf_rises c.args.leaf leaves c.rows.result.now own }

pub returns-in-None : goal.returns-in-None
returns-in-None c =
    let leaves = c.self.inside.by_number.entries in
    let own = ap listed (sym (rows_absent c.args.leaf leaves c.self.invariant c.in-None.ensures.value)) in
    record { value = rw (← c.self.view_is) own; rising = leaf_rises c.args.leaf leaves [] own }
