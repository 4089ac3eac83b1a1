use Rattle.std.proofs.Common.{sym, ◌∙◌, ap}
use Rattle.node_readers.proofs.Adding.{adds_moves}
use Rattle.node_readers.proofs.extent.Extent.add.Goals as goal

pub compare_exchange-found-requires : goal.compare_exchange-found-requires
compare_exchange-found-requires c =
    let h = c.requires.word in
    let offer = c.plain-offer.ensures in
    let pen = c.no_pen-pen.ensures in
    let book = ap (λ e. e.book) c.self.view_is in (
      ap (λ w. w.tracked) h,
      book ∙ sym (ap (λ w. w.book) h),
      pen.0 ∙ (book ∙ sym (ap (λ w. w.book) h)),
      offer.0,
      rw (ap (λ w. w.key) h, pen.1, offer.1, offer.3) (adds_moves c.self.inside.seen.log c.args.change.now c.self.inside.number (sym c.self.invariant)),
    )
