use Rattle.std.proofs.Common.{rules, ◌≡◌, ◌+◌, ◌≤◌, length, drop, get_or, arith}
use Rattle.node_file.specs.Gates.{length_said}
use Rattle.file_pieces.proofs.Framing.{framed_front}
use Rattle.file_pieces.proofs.first.first_in.Goals as goal

pub returns : goal.returns
returns c =
    let b = c.args.bytes.now in
    let n = c.from_be_bytes-payload.result in
    let gate : get_or b 0 0 ≡ 1 = search rules in
    let said : n ≡ length_said (drop 1 b) = search rules in
    let whole : 37 + n ≤ length b = search rules in
    (whole, framed_front b (37 + n) gate (omega (arith, said)) whole (omega (arith, said, c.if-len-gt-MAX_RECORD_LEN.false)))
