use Rattle.std.proofs.Common.{ap, ◌∙◌, ◌++◌, true}
use Rattle.printing.specs.Row.{digest_text}
use Rattle.printing.proofs.Lists.{add_next}
use Rattle.printing.proofs.row.add_each_digest.Goals as goal

pub loop-digest-preserved : goal.loop-digest-preserved
loop-digest-preserved c =
    add_next digest_text true c.loop-digest.first c.args.digests.now c.loop-digest.digest-index c.digest-item.result _ _ _
    c.loop-digest-test.true c.digest-item.is c.loop-digest.invariant
    (c.in_ok-add_digest.ensures.ok ∙ ap (λ bytes. bytes ++ digest_text c.digest-item.result) c.in_ok-add_comma.ensures)
