use Rattle.std.proofs.Common.{sym, subst}
use Rattle.past_model.specs.Moment.{GivesSets}
use Rattle.past_model.proofs.Marking.{gives_replaced}
use Rattle.past_model.proofs.moment.after_keeping.Goals as goal

pub returns-clause-standing : goal.returns-clause-standing
returns-clause-standing c = λ v w gv gw.
    let hs = c.args.history.now in
    rw c.new.ensures
    (gives_replaced hs c.in_ok-standing.standing.items c.standing.result.now c.known-2.result.now v w c.args.key.now
    (subst (λ l. GivesSets hs l v) (sym c.standing.ensures) gv)
    (subst (λ l. GivesSets hs l w) (sym c.known-2.ensures) gw)
    (λ p lt. c.in_ok-standing.ensures p lt))
