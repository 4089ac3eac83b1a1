use Rattle.std.proofs.Common.{◌≡◌, Ok, refl, sym, ap, ◌∙◌}
use Rattle.std.specs.Option.{option_copied}
use Rattle.node_events.specs.declared.event.NodeEvent.TheVariants.{Write}
use Rattle.node_core.proofs.Coming.{attempted}
use Rattle.node_core.proofs.Outcomes.{rejected}
use Rattle.node_core.proofs.state.NodeState.attempt.Goals as goal

pub returns-in-Read-clause-attempt : goal.returns-in-Read-clause-attempt
returns-in-Read-clause-attempt c = attempted _ c.args.self.now c.read.result _ _ c.in-Read.is refl c.read.ensures

pub returns-in-Read-clause-refused : goal.returns-in-Read-clause-refused
returns-in-Read-clause-refused c = rejected _ c.args.self.now c.read.result _ _ c.in-Read.is refl c.read.ensures

is_write : (c : goal.After-write)
    → c.args.event.now ≡ Write c.in-Write.key c.in-Write.value (option_copied c.as_ref.result)
is_write c =
    c.in-Write.is ∙ ap (Write c.in-Write.key c.in-Write.value) (sym c.as_ref.ensures.value)

pub returns-in-Write-clause-attempt : goal.returns-in-Write-clause-attempt
returns-in-Write-clause-attempt c = attempted _ c.write.new.self c.write.result _ _ (is_write c) refl c.write.ensures

pub returns-in-Write-clause-refused : goal.returns-in-Write-clause-refused
returns-in-Write-clause-refused c = rejected _ c.write.new.self c.write.result _ _ (is_write c) refl c.write.ensures

pub returns-in-PutOver-clause-attempt : goal.returns-in-PutOver-clause-attempt
returns-in-PutOver-clause-attempt c = attempted _ c.put_over.new.self c.put_over.result _ _ c.in-PutOver.is refl c.put_over.ensures

pub returns-in-PutOver-clause-refused : goal.returns-in-PutOver-clause-refused
returns-in-PutOver-clause-refused c = rejected _ c.put_over.new.self c.put_over.result _ _ c.in-PutOver.is refl c.put_over.ensures

pub returns-in-Tick-clause-attempt : goal.returns-in-Tick-clause-attempt
returns-in-Tick-clause-attempt c = attempted _ c.args.self.now c.tick.result _ _ c.in-Tick.is refl c.tick.ensures

pub returns-in-Tick-clause-refused : goal.returns-in-Tick-clause-refused
returns-in-Tick-clause-refused c = rejected _ c.args.self.now c.tick.result _ _ c.in-Tick.is refl c.tick.ensures

pub returns-in-Join-clause-attempt : goal.returns-in-Join-clause-attempt
returns-in-Join-clause-attempt c = attempted _ c.args.self.now c.join.result _ _ c.in-Join.is refl c.join.ensures

pub returns-in-Join-clause-refused : goal.returns-in-Join-clause-refused
returns-in-Join-clause-refused c = rejected _ c.args.self.now c.join.result _ _ c.in-Join.is refl c.join.ensures

pub returns-in-PeerDown-clause-attempt : goal.returns-in-PeerDown-clause-attempt
returns-in-PeerDown-clause-attempt c = attempted _ c.args.self.now c.peer_down.result _ _ c.in-PeerDown.is refl c.peer_down.ensures

pub returns-in-PeerDown-clause-refused : goal.returns-in-PeerDown-clause-refused
returns-in-PeerDown-clause-refused c = rejected _ c.args.self.now c.peer_down.result _ _ c.in-PeerDown.is refl c.peer_down.ensures

pub returns-in-Exchange-clause-attempt : goal.returns-in-Exchange-clause-attempt
returns-in-Exchange-clause-attempt c = attempted _ c.args.self.now c.exchange.result _ _ c.in-Exchange.is refl c.exchange.ensures

pub returns-in-Exchange-clause-refused : goal.returns-in-Exchange-clause-refused
returns-in-Exchange-clause-refused c = rejected _ c.args.self.now c.exchange.result _ _ c.in-Exchange.is refl c.exchange.ensures

pub returns-in-Watch-clause-attempt : goal.returns-in-Watch-clause-attempt
returns-in-Watch-clause-attempt c = attempted _ c.watch.new.self c.watch.result _ _ c.in-Watch.is refl c.watch.ensures

pub returns-in-Watch-clause-refused : goal.returns-in-Watch-clause-refused
returns-in-Watch-clause-refused c = rejected _ c.watch.new.self c.watch.result _ _ c.in-Watch.is refl c.watch.ensures

pub returns-in-Changes-clause-attempt : goal.returns-in-Changes-clause-attempt
returns-in-Changes-clause-attempt c = attempted _ c.args.self.now c.changes.result _ _ c.in-Changes.is refl c.changes.ensures

pub returns-in-Changes-clause-refused : goal.returns-in-Changes-clause-refused
returns-in-Changes-clause-refused c = rejected _ c.args.self.now c.changes.result _ _ c.in-Changes.is refl c.changes.ensures

pub returns-in-Hello-clause-attempt : goal.returns-in-Hello-clause-attempt
returns-in-Hello-clause-attempt c = attempted _ c.args.self.now c.hello.result _ _ c.in-Hello.is refl c.hello.ensures

pub returns-in-Hello-clause-refused : goal.returns-in-Hello-clause-refused
returns-in-Hello-clause-refused c = rejected _ c.args.self.now c.hello.result _ _ c.in-Hello.is refl c.hello.ensures

pub returns-in-Leave-clause-attempt : goal.returns-in-Leave-clause-attempt
returns-in-Leave-clause-attempt c = attempted _ c.args.self.now c.leave.result _ _ c.in-Leave.is refl c.leave.ensures

pub returns-in-Leave-clause-refused : goal.returns-in-Leave-clause-refused
returns-in-Leave-clause-refused c = rejected _ c.args.self.now c.leave.result _ _ c.in-Leave.is refl c.leave.ensures

pub returns-in-Keep-clause-attempt : goal.returns-in-Keep-clause-attempt
returns-in-Keep-clause-attempt c =
    attempted c.args.self.now c.args.self.now (Ok c.keep.result) _ _ c.in-Keep.is refl c.keep.ensures
