use Rattle.std.proofs.Common.{◌≡◌, ◌++◌, take}
use Rattle.node_export.specs.Spelling.{nodes_bytes}
use Rattle.node_export.proofs.reading.add_nodes.Given as goal

abbrev pub invariant-loop-node : goal.invariant-loop-node
invariant-loop-node l = l.bytes.items ≡ l.fn.bytes.items ++ nodes_bytes (take l.node-index l.nodes)
