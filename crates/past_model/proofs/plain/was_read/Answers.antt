use Rattle.std.proofs.Common.{◌≡◌, ◌<◌, length, sym, ◌∙◌, arith, true}
use Rattle.std.specs.Prelude.{slice_get}
use Rattle.past_model.specs.Moment.{marked_places}
use Rattle.past_model.proofs.Latest.{inside}
use Rattle.past_model.proofs.Reading.{WriteUnder, write_under, read_unmarked, read_not, read_here}
use Rattle.past_model.proofs.plain.was_read.Goals as goal
use Rattle.past_model.proofs.plain.was_read.Goals.{else-is_marked-via-then-is_marked+else-had_read, else-is_marked-via-else-is_marked}

pub returns-then-had_read : goal.returns-then-had_read
returns-then-had_read c =
    let hs = c.args.history.now in
    let S = marked_places c.args.marks.now in
    let i = c.loop-reader.reader in
    let lt : i < length hs = omega arith in
    let mark : S i ≡ true = sym c.is_marked.ensures ∙ c.if-is_marked.true in
    let one : WriteUnder c.args.key.now (slice_get hs i) = write_under c.args.key.now (slice_get hs i) (c.requires.of_key i mark) in
    sym (read_here hs i one.node c.args.key.now one.value one.seen S c.args.place lt one.is mark
    (sym (c.had_read.ensures one.node one.value one.seen one.is) ∙ c.if-had_read.true))

pub loop-reader-preserved : goal.loop-reader-preserved
loop-reader-preserved c =
    let hs = c.args.history.now in
    let S = marked_places c.args.marks.now in
    let i = c.loop-reader.reader in
    let lt : i < length hs = omega arith in
    elim c.else-is_marked.branch [
      | else-is_marked-via-then-is_marked+else-had_read w ↦
          let mark : S i ≡ true = sym c.is_marked.ensures ∙ w.if-is_marked.true in
          let one : WriteUnder c.args.key.now (slice_get hs i) = write_under c.args.key.now (slice_get hs i) (c.requires.of_key i mark) in
          read_not hs i one.node c.args.key.now one.value one.seen S c.args.place lt one.is mark
          (sym (w.had_read.ensures one.node one.value one.seen one.is) ∙ w.if-had_read.false) c.loop-reader.invariant
      | else-is_marked-via-else-is_marked w ↦
          let at = inside hs i lt in
          read_unmarked hs i at.0 S c.args.place lt at.1 (sym c.is_marked.ensures ∙ w.if-is_marked.false) c.loop-reader.invariant
    ]
