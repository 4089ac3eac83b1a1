use Rattle.std.proofs.Common.{List, ℕ, ◌++◌}
use Rattle.std.specs.List.{flat_map}
use Rattle.frame_fields.specs.Field.{prefix}
use Rattle.hash_tree.proofs.ByPrefix.{part_text}
use Rattle.hash_tree.proofs.Steps.{part_added}
use Rattle.hash_tree.proofs.parts.root_of.Goals as goal

pub loop-prefix-preserved : goal.loop-prefix-preserved
loop-prefix-preserved c =
    let front : List ℕ = c.loop-prefix.invariant.0 in (
      (front ++ prefix.spell c.in-Some.prefix.now) ++ c.bytes.result.now,
      (
        c.add.ensures _ (c.add_prefix.ensures front c.loop-prefix.invariant.1.0),
        rw (c.bytes.ensures.value, c.root.ensures)
            (part_added front c.in-Some.prefix.now c.in-Some.tree.now c.next.new.self c.loop-prefix.prefix-iterator (flat_map part_text c.args.parts.now.entries) c.loop-prefix.invariant.1.1 c.in-Some.ensures.steps),
      ),
    )
