use Rattle.std.proofs.Common.{ap, arith, length}
use Rattle.std.proofs.lemmas.List.{length_push}
use Rattle.std.proofs.lemmas.List.Elements.{All-push, All-same}
use Rattle.inbox.specs.Opening.{IsFresh}
use Rattle.cluster_worker.proofs.passes.open_all.Goals as goal

pub loop-node-preserved : goal.loop-node-preserved
loop-node-preserved c =
    let was = c.loop-node.invariant in
    let all = c.loop-node.all.items in
    let one = c.in_ok-new_inbox.field-0 in
    let more = c.push_reserved.ensures.items in
    let fresh = IsFresh c.args.nodes c.args.room in record {
      number = omega (arith, ap length more, length_push all one, was.number);
      room = omega (arith, was.room, c.push_reserved.ensures.capacity);
      fresh = All-same fresh c.push_reserved.new.self.items _ more
          (All-push fresh all one was.fresh c.in_ok-new_inbox.ensures);
    }
