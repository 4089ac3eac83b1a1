use Rattle.std.proofs.Common.{map}
use Rattle.std.proofs.lemmas.List.Elements.{All-same}
use Rattle.node_overlay.specs.Origin.{envelope_with}
use Rattle.node_overlay.specs.Outbox.{MaySend}
use Rattle.node_overlay.proofs.Naming.{gossips_may}
use Rattle.node_core.proofs.state.NodeState.hold.Goals as goal

pub outbox-requires : goal.outbox-requires
outbox-requires c =
    let node = c.args.self.now.node in
    All-same (MaySend node) c.in_ok-sent.sent.items (map (envelope_with c.args.object) c.args.outs.items) c.in_ok-sent.ensures
    (gossips_may node c.args.object c.args.outs.items c.requires.held c.requires.may)
