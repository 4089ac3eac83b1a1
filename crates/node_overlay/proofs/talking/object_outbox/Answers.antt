use Rattle.std.proofs.Common.{map}
use Rattle.std.proofs.lemmas.List.Elements.{All-same}
use Rattle.node_overlay.specs.Origin.{envelope_with}
use Rattle.node_overlay.specs.Outbox.{MaySend}
use Rattle.node_overlay.proofs.Naming.{framed, gossips_may}
use Rattle.node_overlay.proofs.talking.object_outbox.Goals as goal

pub outbox-requires : goal.outbox-requires
outbox-requires c =
    All-same (MaySend c.args.node) c.in_ok-sent.sent.items (map (envelope_with c.args.object.now) c.args.outs.items) c.in_ok-sent.ensures
    (gossips_may c.args.node c.args.object.now c.args.outs.items c.requires.held c.requires.may)

pub returns : goal.returns
returns c = framed c.outbox.result c.args.node c.args.number c.in_ok-sent.ensures c.outbox.ensures.frames c.outbox.ensures.lawful
