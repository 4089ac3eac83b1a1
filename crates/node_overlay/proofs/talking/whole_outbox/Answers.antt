use Rattle.std.proofs.lemmas.List.Elements.{All-same}
use Rattle.node_overlay.specs.Origin.{whole_messages}
use Rattle.node_overlay.specs.Outbox.{MaySend}
use Rattle.node_overlay.proofs.Naming.{framed, whole_may}
use Rattle.node_overlay.proofs.talking.whole_outbox.Goals as goal

pub outbox-requires : goal.outbox-requires
outbox-requires c =
    All-same (MaySend c.args.node) c.in_ok-sent.sent.items (whole_messages c.args.outs.items) c.in_ok-sent.ensures
    (whole_may c.args.node c.args.outs.items c.requires)

pub returns : goal.returns
returns c = framed c.outbox.result c.args.node c.args.number c.in_ok-sent.ensures c.outbox.ensures.frames c.outbox.ensures.lawful
