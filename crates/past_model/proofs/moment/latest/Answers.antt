use Rattle.std.proofs.Common.{◌≡◌, ◌<◌, ◌+◌, length, sym, subst, ◌∙◌, arith}
use Rattle.std.proofs.lemmas.Bool.{eqb-true, eqb-false}
use Rattle.past_model.specs.Moment.{IsLatest, node_of}
use Rattle.past_model.proofs.Latest.{latest_here, latest_other}
use Rattle.past_model.proofs.moment.latest.Goals as goal
use Rattle.past_model.proofs.moment.latest.Goals.{then-eq, else-eq}

pub loop-place-preserved : goal.loop-place-preserved
loop-place-preserved c =
    let h = c.index-history-place.result in
    let inside : c.loop-place.place < length c.args.history.now = omega (arith, c.requires) in
    elim c.if-eq.branch [
      | then-eq w ↦
          let mine : node_of h ≡ c.args.node = sym c.node.ensures.value ∙ eqb-true c.node.result c.args.node (sym c.eq.ensures ∙ w.if-eq.true) in
          subst (λ m. IsLatest c.args.history.now (c.loop-place.place + 1) c.args.node m) (sym w.moment-is)
          (latest_here c.args.history.now c.loop-place.place c.args.node h inside c.index-history-place.is mine)
      | else-eq w ↦
          let other : (node_of h ≡ c.args.node → ⊥) = λ e. eqb-false c.node.result c.args.node (sym c.eq.ensures ∙ w.if-eq.false) (c.node.ensures.value ∙ e) in
          subst (λ m. IsLatest c.args.history.now (c.loop-place.place + 1) c.args.node m) (sym w.moment-is)
          (latest_other c.args.history.now c.loop-place.place c.args.node c.loop-place.moment h inside c.index-history-place.is other c.loop-place.invariant)
    ]
