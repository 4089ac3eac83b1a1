use Rattle.std.proofs.Common.{◌<◌, ◌+◌, length, sym, ◌∙◌, subst, arith}
use Rattle.past_model.proofs.Fitting.{history_taken}
use Rattle.past_model.proofs.Counting.{Counts, Counts-one, Counts-unmarked, Counts-other}
use Rattle.past_model.proofs.plain.count.Goals as goal
use Rattle.past_model.proofs.plain.count.Goals.{then-is_marked+then-is_write_by, else-is_marked, else-is_marked-via-then-is_marked+else-is_write_by, else-is_marked-via-else-is_marked}

pub loop-place-preserved : goal.loop-place-preserved
loop-place-preserved c =
    let hs = c.args.history.now in
    let marks = c.args.marks.now in
    let w = c.args.writer in
    let i = c.loop-place.place in
    let n = c.loop-place.count in
    let h = c.index-history-place.result in
    let lt : i < length hs = omega arith in
    elim c.if-is_marked.branch [
      | then-is_marked+then-is_write_by b ↦
          subst (λ m. Counts hs marks w (i + 1) m) (sym b.count-is)
          (Counts-one hs marks w i n h lt c.index-history-place.is (sym c.is_marked.ensures ∙ b.if-is_marked.true) (sym b.is_write_by.ensures ∙ b.if-is_write_by.true) c.loop-place.invariant)
      | else-is_marked b ↦
          subst (λ m. Counts hs marks w (i + 1) m) (sym b.count-is)
          (elim b.else-is_marked.branch [
            | else-is_marked-via-then-is_marked+else-is_write_by d ↦
                Counts-other hs marks w i n h lt c.index-history-place.is (sym d.is_write_by.ensures ∙ d.if-is_write_by.false) c.loop-place.invariant
            | else-is_marked-via-else-is_marked d ↦
                Counts-unmarked hs marks w i n h lt c.index-history-place.is (sym c.is_marked.ensures ∙ d.if-is_marked.false) c.loop-place.invariant
          ])
    ]

pub is_write_by-requires : goal.is_write_by-requires
is_write_by-requires c = history_taken c.args.history.now c.loop-place.place c.requires
