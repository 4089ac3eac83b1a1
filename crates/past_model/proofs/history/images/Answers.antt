use Rattle.std.proofs.Common.{◌≡◌, ◌+◌, cond, take, sym, ap, ◌∙◌, arith}
use Rattle.past_model.specs.Past.{past}
use Rattle.past_model.specs.Moment.{makes_image}
use Rattle.past_model.proofs.Walking.{last_next}
use Rattle.past_model.proofs.history.images.Goals as goal
use Rattle.past_model.proofs.history.images.Goals.{then-makes_image, else-makes_image}

pub loop-happening-preserved : goal.loop-happening-preserved
loop-happening-preserved c =
    let h = c.happening-item.result in
    let i = c.loop-happening.happening-index in
    let next : (past (take (i + 1) c.args.before.now)).last c.args.node ≡ cond (makes_image c.args.node h) ((past (take i c.args.before.now)).last c.args.node + 1) ((past (take i c.args.before.now)).last c.args.node) =
    last_next c.args.before.now i h c.args.node c.loop-happening-test.true c.happening-item.is in
    let few = c.loop-happening.invariant.0 in
    elim c.if-makes_image.branch [
      | then-makes_image w ↦ (
        omega (arith, few, w.images-is),
        w.images-is ∙ ap (λ x. x + 1) c.loop-happening.invariant.1
            ∙ sym (next ∙ ap (λ b. cond b ((past (take i c.args.before.now)).last c.args.node + 1) ((past (take i c.args.before.now)).last c.args.node)) (sym c.makes_image.ensures ∙ w.if-makes_image.true)),
      )
      | else-makes_image w ↦ (
        omega (arith, few, w.images-is),
        w.images-is ∙ c.loop-happening.invariant.1
            ∙ sym (next ∙ ap (λ b. cond b ((past (take i c.args.before.now)).last c.args.node + 1) ((past (take i c.args.before.now)).last c.args.node)) (sym c.makes_image.ensures ∙ w.if-makes_image.false)),
      )
    ]
