use Rattle.std.proofs.Common.{◌≡◌, [], ◌∷◌, ◌++◌, All, ap, subst, ◌∙◌}
use Rattle.std.proofs.lemmas.Result.{IfOk-weaker}
use Rattle.node_overlay.specs.Outbox.{HasSpelling, frames_from}
use Rattle.node_overlay.specs.Overlay.{envelope}
use Rattle.node_core.proofs.state.NodeState.one_frame.Goals as goal

pub returns-clause-lawful : goal.returns-clause-lawful
returns-clause-lawful c =
    let s = c.args.self.now in
    let sent = c.push.new.self.items in
    let one = envelope c.args.to c.args.message ∷ [] in
    let is : sent ≡ one = c.in_ok-push.ensures.items ∙ ap (λ es. es ++ one) c.new-sent.ensures.items in
    IfOk-weaker c.outbox.result _ _ (λ _ lawful. subst (λ es. All HasSpelling (frames_from s.node s.frames es)) is lawful)
    c.outbox.ensures.lawful
