use Rattle.std.proofs.Common.{◌≡◌, ℕ}
use Rattle.std.specs.Prelude.{slice_get, ◌&&◌}
use Rattle.std.proofs.lemmas.Result.{IfOk-weaker}
use Rattle.past_model.specs.Past.{known}
use Rattle.past_model.specs.Moment.{marked_places, is_write_under}
use Rattle.past_model.proofs.Reading.{latest_known}
use Rattle.past_model.proofs.plain.marks_of.Goals as goal

pub returns-clause-marks : goal.returns-clause-marks
returns-clause-marks c =
    let hs = c.args.history.now in
    let marks = c.known.result.now in
    let k = c.args.key.now in
    IfOk-weaker c.under.result (λ found. (p : ℕ) → marked_places found.items p ≡ (is_write_under k (slice_get hs p) && marked_places marks p)) (λ found. marked_places found.items ≡ known hs c.args.node k)
    (λ found under. latest_known hs c.args.moments.now c.args.node c.latest.result k c.index-moments-latest.result marks found.items c.requires c.latest.ensures c.index-moments-latest.is c.known.ensures under)
    c.under.ensures
