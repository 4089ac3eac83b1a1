use Rattle.std.proofs.Common.{◌≡◌, cond, sym, ap, ◌∙◌}
use Rattle.std.specs.Prelude.{slice_get}
use Rattle.past_model.specs.Moment.{is_write_under, marked_places}
use Rattle.past_model.proofs.Marking.{Marking-more}
use Rattle.past_model.proofs.moment.replaced.Goals as goal
use Rattle.past_model.proofs.moment.replaced.Goals.{then-is_write_under, else-is_write_under}

pub loop-place-preserved : goal.loop-place-preserved
loop-place-preserved c =
    let p = c.loop-place.place in
    let new = marked_places c.args.new.now p in
    let old = marked_places c.args.old.now p in
    let next : c.is_marked.result ≡ cond (is_write_under c.args.key.now (slice_get c.args.history.now p)) new old =
    elim c.if-is_write_under.branch [
      | then-is_write_under w ↦
          c.is_marked.ensures ∙ ap (λ l. marked_places l.now p) w.from-is
          ∙ ap (λ b. cond b new old) (sym w.if-is_write_under.true ∙ c.is_write_under.ensures)
      | else-is_write_under w ↦
          c.is_marked.ensures ∙ ap (λ l. marked_places l.now p) w.from-is
          ∙ ap (λ b. cond b new old) (sym w.if-is_write_under.false ∙ c.is_write_under.ensures)
    ] in
    Marking-more c.loop-place.marks.items c.push.new.self.items _ p c.is_marked.result c.loop-place.invariant next c.in_ok-push.ensures.items
