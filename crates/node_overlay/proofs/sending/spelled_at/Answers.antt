use Rattle.std.proofs.lemmas.Result.{IfOk-weaker}
use Rattle.node_overlay.proofs.Respelling.{one_more_bytes}
use Rattle.node_overlay.proofs.sending.spelled_at.Goals as goal

pub returns : goal.returns
returns c =
    IfOk-weaker c.spelled_after.result _ _
    (λ bytes is. one_more_bytes c.args.frames.now c.args.at c.index-frames-at-3.result c.args.spelled.now bytes
    c.requires.within c.requires.before c.index-frames-at-3.is is)
    c.spelled_after.ensures
