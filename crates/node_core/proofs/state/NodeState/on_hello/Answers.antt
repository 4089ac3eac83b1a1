use Rattle.std.proofs.Common.{◌<◌, ◌≤◌, get_or, slice_index, lt-ltb, le-ltb, subst}
use Rattle.node_core.specs.Node.{IsInLife, NodeParts}
use Rattle.node_core.proofs.Attempting.{hello_heard, hello_known}
use Rattle.node_core.proofs.state.NodeState.on_hello.Goals as goal

pub returns-then-self-place : goal.returns-then-self-place
returns-then-self-place c =
    let s = c.args.self.now in
    let at_from = subst (λ i. c.args.life ≤ get_or c.self.inside.heard i 0) c.number-place.ensures.value c.if-self-place.true in
    let before = subst (λ (s : NodeParts). c.args.life ≤ get_or s.heard c.args.from 0) c.self.view_is at_from in
    hello_known c.args.from c.args.life c.args.word s c.nothing_sent.result (subst IsInLife c.self.view_is c.self.invariant)
    (le-ltb (slice_index s.heard c.args.from) c.args.life before) c.nothing_sent.ensures

pub returns : goal.returns
returns c =
    let s = c.args.self.now in
    let at_from = subst (λ i. get_or c.self.inside.heard i 0 < c.args.life) c.number-place.ensures.value c.if-self-place.false in
    let later = subst (λ (s : NodeParts). get_or s.heard c.args.from 0 < c.args.life) c.self.view_is at_from in
    hello_heard c.args.from c.args.life c.args.word c.in_ok-overlay.overlay s c.in_ok-overlay.outbox (subst IsInLife c.self.view_is c.self.invariant)
    (lt-ltb (slice_index s.heard c.args.from) c.args.life later) c.in_ok-overlay.ensures.foreseen
