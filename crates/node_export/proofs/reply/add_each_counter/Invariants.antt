use Rattle.std.proofs.Common.{◌≡◌, ◌++◌, take}
use Rattle.std.specs.List.{flat_map}
use Rattle.node_export.specs.Spelling.{counter_bytes}
use Rattle.node_export.proofs.reply.add_each_counter.Given as goal

abbrev pub invariant-loop-counter : goal.invariant-loop-counter
invariant-loop-counter l = l.bytes.items ≡ l.fn.bytes.items ++ flat_map counter_bytes (take l.counter-index l.counters)
