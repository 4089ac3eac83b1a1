use Rattle.std.proofs.Common.{◌+◌, ◌-◌, ◌++◌, List, ap, map, sym, ◌∙◌}
use Rattle.std.specs.List.{range_with_len}
use Rattle.scenario_text.specs.Commands.{Command, Root}
use Rattle.scenario_text.specs.Spelling.{spelled_lines}
use Rattle.run_text.proofs.Asking.{roots_from}
use Rattle.run_text.proofs.Lines.{command_added}
use Rattle.run_text.proofs.replay.add_roots.Goals as goal

pub loop-node-preserved : goal.loop-node-preserved
loop-node-preserved c =
    let old = c.loop-node.text.items in
    let node = c.loop-node.node in
    let rest = map Root (range_with_len (node + 1) (c.args.nodes - (node + 1))) in
    command_added old c.add_line.new.text.items (Root node) rest c.in_ok-add_line.ensures
    ∙ ap (λ (commands : List Command). old ++ spelled_lines commands) (sym (roots_from node c.args.nodes c.loop-node-test.true))
    ∙ c.loop-node.invariant
