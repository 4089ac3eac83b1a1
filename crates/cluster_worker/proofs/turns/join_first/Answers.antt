use Rattle.std.proofs.Common.{◌≡◌, [], ◌∷◌, IfOk, refl, sym, ◌∙◌, subst}
use Rattle.cluster_worker.proofs.Conveying.{first_none, first_some, unless_more, works_as, works_none}
use Rattle.cluster_worker.proofs.turns.join_first.Goals as goal

pub returns-then-number-eq0-clause-works : goal.returns-then-number-eq0-clause-works
returns-then-number-eq0-clause-works g c =
    ([], first_none c.args.worker.now.node (sym c.number.ensures.value ∙ c.if-number-eq0.true), works_none c.args.shared.now.inboxes.now c.args.worker.now)

pub returns-clause-works : goal.returns-clause-works
returns-clause-works g c =
    let inboxes = c.args.shared.now.inboxes.now in
    let worker = c.args.worker.now in
    let contact = subst (λ r. IfOk r (λ n. n ≡ 0)) c.unwrap.ensures c.new.ensures.value in
    unless_more c.make.result _ _
    (λ works. (
      _ ∷ [],
      first_some worker.node c.unwrap.result c.next_u64.result (λ is. c.if-number-eq0.false (c.number.ensures.value ∙ is)) contact,
      works_as inboxes _ worker _ c.make.new.worker works refl refl refl,
    ))
    (c.make.ensures.works worker.passes.takes refl)
