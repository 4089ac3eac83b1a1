use Rattle.std.proofs.Common.{◌≡◌, ◌+◌, [], length, arith}
use Rattle.node_call.proofs.Runs.{journaled_cut}
use Rattle.node_desk.proofs.Kept.{began_on}
use Rattle.node_desk.proofs.Lasting.{keeps_cut}
use Rattle.node_desk.proofs.desk.Desk.cut.Goals as goal

pub invariant_of-self : goal.invariant_of-self
invariant_of-self g c =
    let s = c.self.inside in
    let i = c.self.invariant in
    let n = g.J.Naming in
    rw (c.replace.ensures.after, c.in_ok-state.ensures, c.clear.ensures.items) (
      journaled_cut s.base s.state s.journal.items s.outlets.publisher.list i.4 i.0,
      began_on n.node n.incarnation n.opening s.base s.state s.journal.items s.outlets.publisher.list i.1 i.0,
      i.2,
      i.3,
      omega arith,
      i.5,
      i.6,
      i.7,
      i.8,
      i.9,
      keeps_cut g.D.Device.content g.D.Device.may_leave g.D.Device.moment g.D.Device.left_since n.node n.incarnation n.opening s.base s.state s.journal.items
          s.outlets.publisher.list s.outlets.file.device i.0 i.10,
    )
