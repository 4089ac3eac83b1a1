use Rattle.std.proofs.lemmas.Result.{IfOk-at_ok, IfOk-weaker}
use Rattle.std.proofs.lemmas.List.Elements.{All-same}
use Rattle.node_overlay.specs.Outbox.{AreFramesOf, MaySend}
use Rattle.node_overlay.specs.Overlay.{messages_of}
use Rattle.node_overlay.proofs.Naming.{framed}
use Rattle.node_overlay.proofs.overlay.told_by.Goals as goal

pub outbox-outbox-requires : goal.outbox-outbox-requires
outbox-outbox-requires c =
    All-same (MaySend c.args.node) c.in_ok-changes.sent.items (messages_of c.args.outs.items) c.in_ok-changes.ensures.messages c.requires

pub returns-clause-sends : goal.returns-clause-sends
returns-clause-sends c =
    let call = c.outbox-outbox in
    let frames = framed call.result c.args.node c.args.number c.in_ok-changes.ensures.messages call.ensures.frames call.ensures.lawful in
    IfOk-weaker c.both.result _ _
    (λ told is. IfOk-at_ok (AreFramesOf c.args.node c.args.number (messages_of c.args.outs.items)) is.1 frames) c.both.ensures.value
