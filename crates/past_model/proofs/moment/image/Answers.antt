use Rattle.std.proofs.Common.{◌≡◌, ◌<◌, ◌+◌, length, sym, subst, ◌∙◌, arith}
use Rattle.past_model.proofs.Latest.{Counting, counting_next, counting_other, image_here, image_none}
use Rattle.past_model.proofs.moment.image.Goals as goal
use Rattle.past_model.proofs.moment.image.Goals.{then-makes_image+else-images-number, else-makes_image}

pub returns-then-images-number : goal.returns-then-images-number
returns-then-images-number c =
    image_here c.args.history.now c.loop-place.place c.args.places c.args.node c.args.number c.loop-place.images c.index-history-place.result (omega (arith, c.requires.inside)) (omega arith) c.index-history-place.is (sym c.makes_image.ensures ∙ c.if-makes_image.true) c.if-images-number.true c.loop-place.invariant

pub loop-place-preserved : goal.loop-place-preserved
loop-place-preserved c =
    let h = c.index-history-place.result in
    let inside : c.loop-place.place < length c.args.history.now = omega (arith, c.requires.inside) in
    elim c.if-makes_image.branch [
      | then-makes_image+else-images-number w ↦
          subst (λ m. Counting c.args.history.now (c.loop-place.place + 1) c.args.node c.args.number m) (sym w.images-is)
          (counting_next c.args.history.now c.loop-place.place c.args.node c.args.number c.loop-place.images h inside c.index-history-place.is (sym c.makes_image.ensures ∙ w.if-makes_image.true) w.if-images-number.false c.loop-place.invariant)
      | else-makes_image w ↦
          subst (λ m. Counting c.args.history.now (c.loop-place.place + 1) c.args.node c.args.number m) (sym w.images-is)
          (counting_other c.args.history.now c.loop-place.place c.args.node c.args.number c.loop-place.images h inside c.index-history-place.is (sym c.makes_image.ensures ∙ w.if-makes_image.false) c.loop-place.invariant)
    ]

pub returns : goal.returns
returns c =
    let end : c.loop-place.place ≡ c.args.places = omega arith in
    image_none c.args.history.now c.args.places c.args.node c.args.number c.loop-place.images c.requires.made
    (subst (λ p. Counting c.args.history.now p c.args.node c.args.number c.loop-place.images) end c.loop-place.invariant)
