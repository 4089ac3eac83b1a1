use Rattle.std.proofs.Common.{rules, ◌≡◌, ◌≤◌, [], IfOk, set, ap, sym, ◌∙◌, arith}
use Rattle.cluster_worker.specs.Serving.{life_of}
use Rattle.cluster_worker.specs.Worked.{frames_in}
use Rattle.cluster_worker.specs.declared.worker.Worked.{Worked}
use Rattle.cluster_worker.proofs.Conveying.{conveyed_of}
use Rattle.cluster_worker.proofs.Places.{none_left}
use Rattle.cluster_worker.proofs.Working.{connected_of, not_closed, worked_of}
use Rattle.cluster_worker.proofs.worker.use_node.Goals as goal

pub returns-in-Ok-clause-worked : goal.returns-in-Ok-clause-worked
returns-in-Ok-clause-worked g c =
    let n = g.J.Naming in
    let made = c.make_all-made in
    let said = c.outcome_of.ensures in
    worked_of c.args.shared.now.plan c.args.shared.now.inboxes.now (life_of n.node n.incarnation n.opening) made.new.seat made.new.worker c.in-Ok.closed _ c.outcome_of.result made.ensures.worker c.in-Ok.ensures.began c.in-Ok.ensures.run c.in-Ok.ensures.counts (ap (λ l. set l 0 made.new.seat) c.requires.writers) said.node said.closed said.receipts said.lost

pub returns-in-Ok-clause-conveyed : goal.returns-in-Ok-clause-conveyed
returns-in-Ok-clause-conveyed g c =
    let made = c.make_all-made in
    let said = c.outcome_of.ensures in
    let began = c.requires.worker in
    let first = c.args.worker in
    let none : first.receipts.items ≡ [] = none_left first.receipts.items began.counted in
    let zero : first.lost ≡ 0 = omega (arith, began.lost, ap frames_in none) in
    let few : IfOk c.outcome_of.result (λ (w : Worked). w.lost ≤ 18446744073709551615) = search rules in
    conveyed_of c.args.shared.now.plan c.args.shared.now.inboxes.now first made.new.worker made.result c.outcome_of.result none zero made.ensures.works (made.ensures.worker.node ∙ sym began.node) said.node said.passes said.receipts said.lost said.stopped few

pub returns-in-Ok-clause-connected : goal.returns-in-Ok-clause-connected
returns-in-Ok-clause-connected g c =
    let made = c.make_all-made in
    connected_of c.args.shared.now.inboxes.now made.new.worker c.outcome_of.result made.ensures.worker.passes c.outcome_of.ensures.passes

pub returns-in-Err-clause-refused : goal.returns-in-Err-clause-refused
returns-in-Err-clause-refused g c =
    not_closed _ c.as_slice.result.now _ (c.as_slice.ensures.value ∙ c.requires.readers) c.in-Err.ensures.refused
