use Rattle.std.proofs.Common.{◌≡◌, ◌++◌, ◌-◌, map}
use Rattle.std.specs.List.{range_with_len}
use Rattle.scenario_text.specs.Commands.{Root}
use Rattle.scenario_text.specs.Spelling.{spelled_lines}
use Rattle.run_text.specs.Replay.{roots_of}
use Rattle.run_text.proofs.replay.add_roots.Given as goal

-- the lines that are there, and those of the nodes that are left, are those of all
abbrev pub invariant-loop-node : goal.invariant-loop-node
invariant-loop-node l =
    l.text.items ++ spelled_lines (map Root (range_with_len l.node (l.nodes - l.node))) ≡ l.fn.text.items ++ spelled_lines (roots_of l.nodes)
