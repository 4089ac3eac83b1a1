use Rattle.std.proofs.Common.{◌∙◌, [], ◌∷◌, sym, ap, drop}
use Rattle.node_readers.proofs.Moves.{list_took, on_both, pends_all, takes_all}
use Rattle.node_readers.proofs.publisher.show.Goals as goal

pub publish_as-requires : goal.publish_as-requires
publish_as-requires g c next is =
    let now = c.append.new.writer in
    let are = pends_all g.J.Naming.book c.args.next.now (c.args.change ∷ []) now.desk.shown.value _ (drop now.behind now.log.items)
    (ap (λ d. d.shown.value.list) c.append.ensures.desk ∙ c.requires.copy.changes) c.requires.none c.in-Ok.ensures.pending in
    takes_all _ _ _ _ _ _ now.desk.shown.value next _ are (c.requires.grows, tt) is

pub returns-in-Ok-clause-copy : goal.returns-in-Ok-clause-copy
returns-in-Ok-clause-copy g c =
    let now = c.append.new.writer in
    let are = pends_all g.J.Naming.book c.args.next.now (c.args.change ∷ []) now.desk.shown.value _ (drop now.behind now.log.items)
    (ap (λ d. d.shown.value.list) c.append.ensures.desk ∙ c.requires.copy.changes) c.requires.none c.in-Ok.ensures.pending in
    on_both c.publish_as.result.1 _ _ c.publish_as.ensures.values c.publish_as.ensures.rule (λ values rule. record {
      changes = list_took _ _ _ _ c.publish_as.result.0.desk.shown.value _ are values.0 ∙ sym c.in-Ok.ensures.next;
      is_copy = rule.0;
    })

pub returns-in-Ok-clause-known : goal.returns-in-Ok-clause-known
returns-in-Ok-clause-known g c =
    let now = c.append.new.writer in
    let are = pends_all g.J.Naming.book c.args.next.now (c.args.change ∷ []) now.desk.shown.value _ (drop now.behind now.log.items)
    (ap (λ d. d.shown.value.list) c.append.ensures.desk ∙ c.requires.copy.changes) c.requires.none c.in-Ok.ensures.pending in
    on_both c.publish_as.result.1 _ _ c.publish_as.ensures.values c.publish_as.ensures.rule (λ values rule.
    rule.2 ∙ list_took _ _ _ _ c.publish_as.result.0.desk.shown.value _ are values.0 ∙ sym c.in-Ok.ensures.next)
