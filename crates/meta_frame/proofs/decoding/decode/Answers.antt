use Rattle.std.proofs.Common.{arith}
use Rattle.meta_frame.proofs.Frames.{answers_frame, answers_refusal}
use Rattle.meta_frame.proofs.decoding.decode.Goals as goal

pub returns-clause-found : goal.returns-clause-found
returns-clause-found c = answers_frame c.args.bytes.now c.read.result (λ i. omega (arith, c.type_inv.bytes i)) c.read.ensures

pub returns-clause-refused : goal.returns-clause-refused
returns-clause-refused c = answers_refusal c.args.bytes.now c.read.result (λ i. omega (arith, c.type_inv.bytes i)) c.read.ensures
