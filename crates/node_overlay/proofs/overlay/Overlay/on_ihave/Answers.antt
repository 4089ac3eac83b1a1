use Rattle.node_overlay.proofs.Naming.{announced, told_on}
use Rattle.node_overlay.proofs.Asked.{noted_from}
use Rattle.node_overlay.proofs.overlay.Overlay.on_ihave.Goals as goal

pub invariant_of-self-2 : goal.invariant_of-self-2
invariant_of-self-2 c =
    let may = announced c.args.key.now c.args.vector.now c.requires.another c.ranges.round.fits c.key.ensures.in_range c.requires.spelled in
    told_on c.self.view_is c.self.invariant c.in_ok-noted.ensures.row tt may

pub returns-clause-pending : goal.returns-clause-pending
returns-clause-pending c =
    let may = announced c.args.key.now c.args.vector.now c.requires.another c.ranges.round.fits c.key.ensures.in_range c.requires.spelled in
    noted_from c.in_ok-noted.noted c.self.view_is c.self.invariant c.in_ok-noted.ensures.row c.in_ok-noted.ensures.back tt may
