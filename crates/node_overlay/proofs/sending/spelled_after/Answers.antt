use Rattle.std.proofs.lemmas.Result.{IfOk-weaker}
use Rattle.std.proofs.Common.{◌∙◌}
use Rattle.node_overlay.proofs.Respelling.{readdressed}
use Rattle.node_overlay.proofs.sending.spelled_after.Goals as goal

pub returns-then-says_the_same : goal.returns-then-says_the_same
returns-then-says_the_same c =
    IfOk-weaker c.readdressed.result _ _
    (λ bytes is. is ∙ readdressed c.args.before.now c.args.frame.now c.args.last.now c.requires.last
    (c.says_the_same.ensures.from c.if-says_the_same.true) (c.says_the_same.ensures.message c.if-says_the_same.true))
    c.readdressed.ensures
