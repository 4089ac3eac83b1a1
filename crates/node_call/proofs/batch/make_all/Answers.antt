use Rattle.std.proofs.Common.{◌≡◌, ◌+◌, List, [], ◌∷◌, ◌++◌, length, take, refl, sym, ap, subst, ◌∙◌, arith, append_assoc, length-append}
use Rattle.std.proofs.lemmas.List.{length-map, take_at}
use Rattle.node_journal.specs.declared.receipt.Receipt.{Receipt}
use Rattle.node_call.specs.Batch.{HasRoomFor, PreventsAt, entries_of, event_written}
use Rattle.node_call.specs.Ready.{Prevents}
use Rattle.node_call.specs.declared.write.Write.{Write}
use Rattle.node_call.proofs.Batching.{as_many, goes_on, not_kept, prevents_at, room_on}
use Rattle.node_call.proofs.batch.make_all.Goals as goal

pub returns-in-Err-clause-refused : goal.returns-in-Err-clause-refused
returns-in-Err-clause-refused c =
    let i = c.loop-write.invariant in
    let made = c.make_write-made in
    let old = c.args.state.now in
    let mid = c.loop-write.state in
    let yielded = c.loop-write.yielded in
    let w = c.in-Some.write in
    let later = c.next.new.self.rest.items in
    let receipts = c.loop-write.batch.receipts.items in
    let changes = c.loop-write.batch.changes.items in
    let limit = c.args.limit in
    let before = c.args.journal.now.items in
    let fault = c.in-Err.fault in
    let all : yielded ++ w ∷ later ≡ c.args.writes.items = ap (λ (l : List Write). yielded ++ l) (sym c.in-Some.ensures.steps.0) ∙ i.rest in
    let many : length receipts ≡ length yielded = as_many old mid yielded receipts changes i.batch in
    let at : c.len-place.result ≡ length yielded = omega (arith, c.len-place.ensures, c.loop-write.batch.receipts.ok.0, many) in
    let entries : length (entries_of receipts) ≡ length receipts = length-map receipts (λ (r : Receipt). r.entry) in
    let long : length c.loop-write.journal.items ≡ length before + length yielded =
    ap length i.journal ∙ omega (arith, length-append before (entries_of receipts), entries, many) in
    let here = not_kept made.result fault mid (event_written w) limit (length c.loop-write.journal.items) made.ensures.refused c.in-Err.ensures.refused in
    let there = prevents_at old mid yielded receipts changes w later limit (length before) fault i.batch (subst (λ n. Prevents mid (event_written w) limit n fault) long here) in (
      c.len-place.result,
      fault,
      refl,
      record {
        room =
            subst (λ (ws : List Write). HasRoomFor limit (length before) old ws)
            (sym (ap (take c.len-place.result) (sym all) ∙ take_at yielded (w ∷ later) c.len-place.result (sym at))) i.room;
        prevents =
            subst (λ n. PreventsAt n old c.args.writes.items limit (length before) fault) (sym at)
            (subst (λ (ws : List Write). PreventsAt (length yielded) old ws limit (length before) fault) all there);
      },
    )

pub loop-write-preserved : goal.loop-write-preserved
loop-write-preserved c =
    let i = c.loop-write.invariant in
    let made = c.make_write-made in
    let yielded = c.loop-write.yielded in
    let on = goes_on made.result c.args.state.now c.loop-write.state made.new.state yielded c.in-Some.write c.loop-write.batch c.keep.new.batch
    c.node-node.result c.steps-step.result c.args.limit c.args.journal.now.items c.loop-write.journal.items made.new.journal.items
    c.in_default.ensures.ok c.in_default.ensures.kept made.ensures.made made.ensures.event made.ensures.journal made.ensures.few
    c.node-node.ensures c.steps-step.ensures i.batch i.journal in
    record {
      batch = on.batch;
      journal = on.journal;
      room =
          room_on made.result c.args.state.now c.loop-write.state yielded c.in-Some.write c.loop-write.batch.receipts.items c.loop-write.batch.changes.items
          c.args.limit c.args.journal.now.items c.loop-write.journal.items c.in_default.ensures.ok made.ensures.few i.batch i.journal;
      rest =
          append_assoc yielded (c.in-Some.write ∷ []) c.next.new.self.rest.items
          ∙ (ap (λ (l : List Write). yielded ++ l) (sym c.in-Some.ensures.steps.0) ∙ i.rest);
      can = made.ensures.can;
      back = made.ensures.back ∙ i.back;
    }
