use Rattle.std.proofs.Common.{◌++◌, All, suc, arith, subst, sym, ap, ◌∙◌}
use Rattle.node_overlay.specs.Outbox.{MaySend, frames_from}
use Rattle.node_overlay.proofs.Numbering.{one_more, one_more_spelled}
use Rattle.node_overlay.proofs.sending.numbered.Goals as goal

pub loop-envelope-preserved : goal.loop-envelope-preserved
loop-envelope-preserved c =
    let from = c.args.from in
    let number = c.loop-envelope.number in
    let next = c.saturating_add-number.result in
    let front = c.loop-envelope.frames.items in
    let left = c.next.new.self.rest.items in
    let is = c.in-Some.ensures.steps.0 in
    let before = ap (λ es. front ++ frames_from from number es) (sym is) ∙ c.loop-envelope.invariant.frames in
    let rest = subst (All (MaySend from)) is c.loop-envelope.invariant.left in
    record {
      frames = ap (λ frames. frames ++ frames_from from next left) c.in_ok-push.ensures.items
          ∙ one_more from number next c.in-Some.envelope front c.lawful_frame.result left _
          c.saturating_add-number.ensures c.lawful_frame.ensures.frame before;
      lawful = λ spelled.
          c.loop-envelope.invariant.lawful
          (one_more_spelled from number next c.in-Some.envelope left _ is c.saturating_add-number.ensures
          c.lawful_frame.ensures.lawful spelled);
      left = λ k d inside. rest (suc k) d (omega (arith, inside));
    }
