use Rattle.std.proofs.Common.{rules, ◌≡◌, Bool, IsTrue, ◌↔◌, sym, ◌∙◌}
use Rattle.node_events.specs.EqualEvents.{reply_eq, reply_eq-Decides}
use Rattle.node_events.specs.declared.reply.Reply.{Reply}
use Rattle.node_events.proofs.reply.ReplyPartialEq.eq.Goals as goal

-- an answer that is that of the comparison says whether two replies are the same
same_by : (r : Bool) (x y : Reply) → r ≡ reply_eq x y → IsTrue r ↔ (x ≡ y)
same_by r x y is =
    let decides = reply_eq-Decides x y in
    ((λ yes. decides.0 (sym is ∙ yes)), (λ same. is ∙ decides.1 same))

pub returns-then-eq-clause-same : goal.returns-then-eq-clause-same
returns-then-eq-clause-same c = same_by _ c.args.self.now c.args.other.now (search rules)

pub returns-else-eq-clause-same : goal.returns-else-eq-clause-same
returns-else-eq-clause-same c = same_by _ c.args.self.now c.args.other.now (search rules)

pub returns-in-Wrote-Wrote-clause-same : goal.returns-in-Wrote-Wrote-clause-same
returns-in-Wrote-Wrote-clause-same c =
    same_by _ c.args.self.now c.args.other.now (search rules)

pub returns-then-missed-count-clause-same : goal.returns-then-missed-count-clause-same
returns-then-missed-count-clause-same c =
    same_by _ c.args.self.now c.args.other.now (search rules)
