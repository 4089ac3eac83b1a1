use Rattle.std.proofs.Common.{length, sym, refl, ◌∙◌, arith}
use Rattle.std.proofs.lemmas.Option.{slice_get_read}
use Rattle.past_model.proofs.Fitting.{so_far_next, so_far_all, fits_at}
use Rattle.past_model.proofs.history.fits.Goals as goal

pub returns-then-not-fits_after : goal.returns-then-not-fits_after
returns-then-not-fits_after c =
    let h = c.index-history-place.result in (
      (λ e. absurd (cc)),
      (λ history. sym c.if-not-fits_after.true ∙ c.fits_after.ensures.1
          (fits_at c.args.history.now c.loop-place.place h history (slice_get_read c.args.history.now (length c.args.history.now) c.loop-place.place h refl c.loop-place-test.true c.index-history-place.is))),
    )

pub loop-place-preserved : goal.loop-place-preserved
loop-place-preserved c =
    so_far_next c.args.history.now c.loop-place.place c.index-history-place.result c.loop-place-test.true c.index-history-place.is (c.fits_after.ensures.0 c.if-not-fits_after.false) c.loop-place.invariant

pub returns : goal.returns
returns c = (
  (λ e. so_far_all c.args.history.now c.loop-place.place (omega arith) c.loop-place.invariant),
  (λ history. refl),
)
