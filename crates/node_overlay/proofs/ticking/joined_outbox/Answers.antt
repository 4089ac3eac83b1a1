use Rattle.std.proofs.Common.{◌++◌}
use Rattle.std.proofs.lemmas.List.Elements.{All-append, All-same}
use Rattle.node_overlay.specs.Outbox.{MaySend}
use Rattle.node_overlay.proofs.Naming.{framed}
use Rattle.node_overlay.proofs.ticking.joined_outbox.Goals as goal

pub outbox-requires : goal.outbox-requires
outbox-requires c =
    All-same (MaySend c.args.node) c.in_ok-sent.sent.items (c.args.front.items ++ c.args.back.items) c.in_ok-sent.ensures
    (All-append (MaySend c.args.node) c.args.front.items c.args.back.items c.requires.front c.requires.back)

pub returns : goal.returns
returns c = framed c.outbox.result c.args.node c.args.number c.in_ok-sent.ensures c.outbox.ensures.frames c.outbox.ensures.lawful
