use Rattle.std.proofs.Common.{◌∙◌, inl, inr, refl, ap, subst}
use Rattle.meta_frame.specs.Frame.{RefusesBytes, Spells}
use Rattle.node_events.specs.Fault.{of_frame}
use Rattle.world_core.specs.Fault.{of_step}
use Rattle.world_core.proofs.step.junk_fault.Goals as goal

pub returns-in-Ok : goal.returns-in-Ok
returns-in-Ok c = inr (inl (record { frame = c.in-Ok.frame; spelled = subst (Spells c.in-Ok.frame) c.as_slice.ensures c.in-Ok.ensures.found }, refl))

pub returns-in-Err : goal.returns-in-Err
returns-in-Err c =
    elim c.in-Err.ensures.refused [
      | inl memory ↦ inl (c.from-in-Err.ensures ∙ ap of_step (c.from.ensures ∙ ap of_frame memory))
      | inr cause ↦ inr (inr (c.in-Err.fault, (subst (λ bytes. RefusesBytes bytes c.in-Err.fault) c.as_slice.ensures cause, c.from-in-Err.ensures ∙ ap of_step c.from.ensures)))
    ]
