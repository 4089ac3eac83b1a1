use Rattle.std.proofs.Common.{◌≡◌, ◌+◌, ◌<◌, ◌≤◌, length, length-drop, drop, get_or, refl, rules, sym, arith}
use Rattle.node_file.specs.Gates.{end_of_records, length_said}
use Rattle.node_file.proofs.Ending.{end_was_cut, end_was_long, end_went_on}
use Rattle.node_file.proofs.gates.end_of_records.Goals as goal

pub loop-gate-init : goal.loop-gate-init
unfolding end_of_records
loop-gate-init c = record { front = omega arith; walked = refl }

pub returns-then-behind-lt4-clause-value : goal.returns-then-behind-lt4-clause-value
returns-then-behind-lt4-clause-value c =
    let bytes = c.args.bytes.now in
    let at = c.loop-gate.gate in
    let is_open : get_or bytes at 0 ≡ 1 = search rules in
    let cut : length (drop (at + 1) bytes) < 4 = omega (arith, c.if-behind-lt4.true, length-drop (at + 1) bytes) in
    sym (end_was_cut bytes at (end_of_records bytes) c.loop-gate-test.true is_open cut c.loop-gate.invariant.walked)

pub returns-then-len-gt-MAX_PAYLOAD_LEN-clause-value : goal.returns-then-len-gt-MAX_PAYLOAD_LEN-clause-value
returns-then-len-gt-MAX_PAYLOAD_LEN-clause-value c =
    let bytes = c.args.bytes.now in
    let at = c.loop-gate.gate in
    let len = c.from_be_bytes-len.result in
    let is_open : get_or bytes at 0 ≡ 1 = search rules in
    let four : 4 ≤ length (drop (at + 1) bytes) = omega (arith, c.if-behind-lt4.false, length-drop (at + 1) bytes) in
    let said : len ≡ length_said (drop (at + 1) bytes) = search rules in
    let long : 16777216 < len = search rules in
    sym (end_was_long bytes at len (end_of_records bytes) c.loop-gate-test.true is_open four said long c.loop-gate.invariant.walked)

pub loop-gate-preserved : goal.loop-gate-preserved
loop-gate-preserved c =
    let bytes = c.args.bytes.now in
    let at = c.loop-gate.gate in
    let len = c.from_be_bytes-len.result in
    let is_open : get_or bytes at 0 ≡ 1 = search rules in
    let four : 4 ≤ length (drop (at + 1) bytes) = omega (arith, c.if-behind-lt4.false, length-drop (at + 1) bytes) in
    let said : len ≡ length_said (drop (at + 1) bytes) = search rules in
    let fits : len ≤ 16777216 = search rules in
    record {
      front = omega (arith, c.loop-gate.invariant.front);
      walked = end_went_on bytes at len (at + (37 + len)) (end_of_records bytes) c.loop-gate-test.true is_open four said fits refl c.loop-gate.invariant.walked;
    }
