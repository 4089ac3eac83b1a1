use Rattle.std.proofs.Common.{◌<◌, All, subst, arith}
use Rattle.std.proofs.lemmas.List.{take_all}
use Rattle.node_journal.specs.Closed.{ClosedNode, number_of}
use Rattle.run_record.proofs.Wholeness.{at_most}
use Rattle.run_record.proofs.replay.are_few.Goals as goal

pub returns : goal.returns
returns c =
    let closed = c.args.closed.now in
    let whole = take_all c.loop-one.one-index closed (omega arith) in
    at_most closed 16 c.requires
    (subst (λ cs. All (λ (x : ClosedNode). number_of x < 16) cs) whole c.loop-one.invariant)
