use Rattle.std.proofs.Common.{List, length, arith, refl, ap}
use Rattle.node_journal.specs.declared.entry.Entry.{Entry}
use Rattle.run_record.proofs.Heads.{heads_more, heads_same}
use Rattle.run_record.proofs.walk.heads.Goals as goal
use Rattle.run_record.proofs.walk.heads.Goals.{then-place-journal_of+in_ok-push, else-place-journal_of}

pub loop-node-preserved : goal.loop-node-preserved
loop-node-preserved c =
    let length_is = ap (λ (l : List Entry). length l) c.journal_of.ensures in
    elim c.if-place-journal_of.branch [
      | then-place-journal_of+in_ok-push w ↦ rw (w.places-is, w.in_ok-push.ensures.items)
          (heads_more c.args.closed.now c.args.next.now c.loop-node.node c.loop-node.places.items _
          c.loop-node.invariant refl refl (omega (arith, length_is)))
      | else-place-journal_of w ↦ rw w.places-is
          (heads_same c.args.closed.now c.args.next.now c.loop-node.node c.loop-node.places.items
          c.loop-node.invariant (omega (arith, length_is)))
    ]
