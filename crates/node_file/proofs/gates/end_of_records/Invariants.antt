use Rattle.std.proofs.Common.{◌≡◌, ◌≤◌, ◌-◌, length, drop}
use Rattle.node_file.specs.Gates.{end_from, end_of_records}
use Rattle.node_file.proofs.gates.end_of_records.Given as goal

abbrev pub invariant-loop-gate : goal.invariant-loop-gate
invariant-loop-gate l = record {
  front : 10 ≤ l.gate;
  walked : end_from 0 l.gate (drop l.gate l.bytes) ≡ end_of_records l.bytes;
}

abbrev pub decreases-loop-gate : goal.decreases-loop-gate
decreases-loop-gate l = length l.bytes - l.gate
