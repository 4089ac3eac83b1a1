use Rattle.std.proofs.Common.{arith, ap, inr, sym, ◌∙◌}
use Rattle.cluster_worker.proofs.Putting.{of_one_line, put_by, still_of}
use Rattle.cluster_worker.proofs.Sent.{is_put, no_room, not_put}
use Rattle.cluster_worker.specs.Frames.{addressee_of}
use Rattle.cluster_worker.proofs.sending.send.Goals as goal

pub put-requires : goal.put-requires
put-requires g c =
    of_one_line c.args.inboxes.now c.args.puts.now.items c.in-Some.node c.index-inboxes-node.result c.index_mut.result.now c.requires.passes (omega arith) c.index-inboxes-node.is c.index_mut.ensures.value

pub returns-in-Some : goal.returns-in-Some
returns-in-Some g c =
    let puts = c.args.puts.now.items in
    let i = c.in-Some.node in
    let named = ap addressee_of (sym c.as_slice.ensures) ∙ (sym c.addressee.ensures ∙ c.in-Some.is) in
    let there = c.index_mut.ensures.value in record {
      passes = still_of c.args.inboxes.now puts i c.index_mut.result.now c.put.new.pass c.requires.passes there (put_by c.put.result _ _ c.args.frame c.put.ensures.put);
      put = is_put c.put.result c.is_ok.result puts i c.index_mut.result.now c.put.new.pass c.args.frame named (omega arith) there c.put.ensures.put c.is_ok.ensures.value;
      lost = λ told. (
        not_put c.put.result c.is_ok.result puts i c.index_mut.result.now c.put.new.pass c.args.frame there c.put.ensures.put c.is_ok.ensures.value told,
        inr (no_room c.args.inboxes.now c.put.result c.is_ok.result puts i c.index-inboxes-node.result c.index_mut.result.now c.put.new.pass c.args.frame named
            c.requires.passes (omega arith) c.index-inboxes-node.is there c.put.ensures.put c.put.ensures.closed c.put.ensures.full c.is_ok.ensures.value told),
      );
    }
