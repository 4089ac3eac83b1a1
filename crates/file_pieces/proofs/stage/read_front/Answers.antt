use Rattle.std.proofs.Common.{◌≡◌, ◌≤◌, ◌++◌, length, arith}
use Rattle.std.proofs.lemmas.Grind.{common_steps}
use Rattle.file_pieces.proofs.Parts.{behind_front}
use Rattle.file_pieces.proofs.stage.read_front.Goals as goal

pub returns-clause-read : goal.returns-clause-read
returns-clause-read c =
    let front = c.split_at.result.0.now in
    let behind = c.split_at.result.1.now in
    let split : c.args.bytes.now ≡ front ++ behind = grind (arith, common_steps) in
    let ten : length front ≡ 10 = grind (arith, common_steps) in
    let some : 1 ≤ length behind = grind (arith, common_steps) in
    behind_front c.args.asked c.in-Ok.progress c.in_ok-stage.stage c.in_ok-stage.read front behind c.args.bytes.now split ten some c.in-Ok.ensures.at c.in-Ok.ensures.begun c.in_ok-stage.ensures.read
