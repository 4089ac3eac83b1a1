use Rattle.std.proofs.Common.{arith}
use Rattle.run_text.proofs.Spellings.{junk_spelled}
use Rattle.run_text.proofs.spelling.is_spelled_junk.Goals as goal

pub returns : goal.returns
returns c =
    junk_spelled c.args.node c.args.bytes.now c.is_empty.result c.is_empty.ensures c.ranges.node.fits (λ i. omega (arith, c.type_inv.bytes i))
