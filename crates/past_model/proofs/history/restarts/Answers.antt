use Rattle.std.proofs.Common.{◌≡◌, ◌+◌, cond, take, sym, ap, ◌∙◌, arith}
use Rattle.past_model.specs.Past.{past}
use Rattle.past_model.specs.Moment.{restarts_node}
use Rattle.past_model.proofs.Walking.{restarts_next}
use Rattle.past_model.proofs.history.restarts.Goals as goal
use Rattle.past_model.proofs.history.restarts.Goals.{then-restarts, else-restarts}

pub loop-happening-preserved : goal.loop-happening-preserved
loop-happening-preserved c =
    let h = c.happening-item.result in
    let i = c.loop-happening.happening-index in
    let next : (past (take (i + 1) c.args.before.now)).restarts c.args.node ≡ cond (restarts_node c.args.node h) ((past (take i c.args.before.now)).restarts c.args.node + 1) ((past (take i c.args.before.now)).restarts c.args.node) =
    restarts_next c.args.before.now i h c.args.node c.loop-happening-test.true c.happening-item.is in
    let few = c.loop-happening.invariant.0 in
    elim c.if-restarts.branch [
      | then-restarts w ↦ (
        omega (arith, few, w.restarts-is),
        w.restarts-is ∙ ap (λ x. x + 1) c.loop-happening.invariant.1
            ∙ sym (next ∙ ap (λ b. cond b ((past (take i c.args.before.now)).restarts c.args.node + 1) ((past (take i c.args.before.now)).restarts c.args.node)) (sym c.restarts.ensures ∙ w.if-restarts.true)),
      )
      | else-restarts w ↦ (
        omega (arith, few, w.restarts-is),
        w.restarts-is ∙ c.loop-happening.invariant.1
            ∙ sym (next ∙ ap (λ b. cond b ((past (take i c.args.before.now)).restarts c.args.node + 1) ((past (take i c.args.before.now)).restarts c.args.node)) (sym c.restarts.ensures ∙ w.if-restarts.false)),
      )
    ]
