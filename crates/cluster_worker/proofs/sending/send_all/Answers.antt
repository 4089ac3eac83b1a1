use Rattle.std.proofs.Common.{◌<◌, ◌∙◌, arith}
use Rattle.cluster_worker.proofs.Sent.{next_sent, one_lost, one_put}
use Rattle.cluster_worker.proofs.sending.send_all.Goals as goal
use Rattle.cluster_worker.proofs.sending.send_all.Goals.{then-not-send, else-not-send}

pub loop-frame-preserved : goal.loop-frame-preserved
loop-frame-preserved g c =
    let was = c.loop-frame.invariant in
    let inboxes = c.args.inboxes.now in
    let old = c.args.puts.now.items in
    let frames = c.args.frames.now in
    let i = c.loop-frame.frame-index in
    let mid = c.loop-frame.puts.items in
    let new = c.send.new.puts.items in
    let frame = c.frame-item.result in
    let copy = c.in_ok-copy.field-0 in
    elim c.if-not-send.branch [
      | then-not-send w ↦ let now = w.lost-is ∙ w.saturating_add-lost.ensures in let small : c.loop-frame.lost < 9223372036854775808 = omega (arith, was.few, c.loop-frame-test.true) in record {
        passes = c.send.ensures.passes;
        sent = next_sent inboxes old frames i c.loop-frame.lost mid frame copy 1 new c.if-not-send.lost c.loop-frame-test.true
            c.frame-item.is c.in_ok-copy.ensures was.sent (one_lost inboxes mid copy new (c.send.ensures.lost w.if-not-send.true)) (omega (arith, now, small));
        few = omega (arith, now, was.few);
      }
      | else-not-send w ↦ record {
        passes = c.send.ensures.passes;
        sent = next_sent inboxes old frames i c.loop-frame.lost mid frame copy 0 new c.if-not-send.lost c.loop-frame-test.true
            c.frame-item.is c.in_ok-copy.ensures was.sent (one_put inboxes mid copy new (c.send.ensures.put w.if-not-send.false)) (omega (arith, w.lost-is));
        few = omega (arith, w.lost-is, was.few);
      }
    ]
