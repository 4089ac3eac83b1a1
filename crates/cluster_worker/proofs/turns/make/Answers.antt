use Rattle.std.proofs.Common.{◌≡◌, ◌≤◌, ◌∙◌, length, refl, ap, subst, arith}
use Rattle.node_journal.specs.declared.receipt.Receipt.{Receipt}
use Rattle.cluster_worker.specs.Frames.{ArePutOrLost}
use Rattle.cluster_worker.specs.Serving.{life_of}
use Rattle.cluster_worker.proofs.Conveying.{accepts, refuses_one, unless}
use Rattle.cluster_worker.proofs.Sent.{few_lost}
use Rattle.cluster_worker.proofs.Working.{goes_on}
use Rattle.cluster_worker.proofs.turns.make.Goals as goal

pub returns-in_err-lost-in-Ok-clause-worker : goal.returns-in_err-lost-in-Ok-clause-worker
returns-in_err-lost-in-Ok-clause-worker g c =
    let n = g.J.Naming in
    goes_on c.args.shared.now.plan c.args.shared.now.inboxes.now (life_of n.node n.incarnation n.opening) c.args.seat.now c.ask_at_last.new.seat c.args.event.now c.in-Ok.done c.args.worker.now _ c.reserve.new.self.items c.into_receipt-receipt.result c.requires.worker refl refl refl c.send_all-lost.ensures.passes c.reserve.ensures.items c.push_reserved.ensures.items c.into_receipt-receipt.ensures c.requires.asked c.in-Ok.ensures.answers c.in-Ok.ensures.counted (omega arith)

pub returns-in_ok-lost-in-Ok-clause-worker : goal.returns-in_ok-lost-in-Ok-clause-worker
returns-in_ok-lost-in-Ok-clause-worker g c =
    let n = g.J.Naming in
    let most : c.in_ok-lost-in-Ok.field-0 ≤ length c.into_receipt-receipt.result.entry.outbox =
    omega (arith, few_lost c.args.shared.now.inboxes.now c.args.worker.now.passes.puts.items c.as_slice-frames.result.now c.in_ok-lost-in-Ok.field-0 c.send_all-lost.new.puts.items c.in_ok-lost-in-Ok.ensures.sent, ap length c.as_slice-frames.ensures) in
    goes_on c.args.shared.now.plan c.args.shared.now.inboxes.now (life_of n.node n.incarnation n.opening) c.args.seat.now c.ask_at_last.new.seat c.args.event.now c.in-Ok.done c.args.worker.now _ c.reserve.new.self.items c.into_receipt-receipt.result c.requires.worker refl refl refl c.send_all-lost.ensures.passes c.reserve.ensures.items c.push_reserved.ensures.items c.into_receipt-receipt.ensures c.requires.asked c.in-Ok.ensures.answers c.in-Ok.ensures.counted (omega (arith, most))

pub returns-in_ok-lost-in-Ok-clause-works : goal.returns-in_ok-lost-in-Ok-clause-works
returns-in_ok-lost-in-Ok-clause-works g c =
    let r = c.into_receipt-receipt.result in
    let is : r.entry.event ≡ c.args.event.now =
    ap (λ (x : Receipt). x.entry.event) c.into_receipt-receipt.ensures ∙ c.in-Ok.ensures.answers.receipt.is_event in
    let sent = subst (λ l. ArePutOrLost c.args.shared.now.inboxes.now c.args.worker.now.passes.puts.items l c.in_ok-lost-in-Ok.field-0 c.send_all-lost.new.puts.items)
    c.as_slice-frames.ensures c.in_ok-lost-in-Ok.ensures.sent in
    λ takes for. accepts c.args.shared.now.inboxes.now c.args.event.now takes c.args.worker.now _ c.reserve.new.self.items r c.in_ok-lost-in-Ok.field-0 for refl c.reserve.ensures.items c.push_reserved.ensures.items is sent c.saturating_add-worker.ensures

pub returns-in-Err-clause-works : goal.returns-in-Err-clause-works
returns-in-Err-clause-works g c =
    λ takes for. unless c.after_refusal.result _ (refuses_one c.args.shared.now.inboxes.now c.args.event.now takes c.args.worker.now _ for refl c.reserve.ensures.items refl)
