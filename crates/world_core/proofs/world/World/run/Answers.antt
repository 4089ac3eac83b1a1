use Rattle.std.proofs.Common.{rules, ◌≡◌, ◌+◌, ◌<◌, length, get_or, take, [], ◌∷◌, ◌++◌, sym, ap, subst, ◌∙◌}
use Rattle.std.proofs.lemmas.List.{take_more}
use Rattle.world_core.specs.Outcome.{Outcomes}
use Rattle.world_core.proofs.Running.{outcomes_snoc}
use Rattle.world_core.proofs.world.World.run.Goals as goal

pub loop-event-preserved : goal.loop-event-preserved
loop-event-preserved c =
    let low : c.loop-event.event-index < length c.args.events.now = search rules in
    let item : get_or c.args.events.now c.loop-event.event-index c.event-item.result ≡ c.event-item.result = search rules in
    let events : take (c.loop-event.event-index + 1) c.args.events.now ≡ take c.loop-event.event-index c.args.events.now ++ c.event-item.result ∷ [] =
    take_more c.args.events.now c.loop-event.event-index c.event-item.result low ∙ ap (λ e. take c.loop-event.event-index c.args.events.now ++ e ∷ []) item in
    let items : c.push.new.self.items ≡ c.loop-event.outcomes.items ++ c.apply_copy.result ∷ [] = search rules in
    let ran = outcomes_snoc c.args.self.now (take c.loop-event.event-index c.args.events.now) c.loop-event.outcomes.items c.loop-event.self c.event-item.result c.apply_copy.result c.apply_copy.new.self c.loop-event.invariant.0 c.apply_copy.ensures in (
      subst (λ es. Outcomes c.args.self.now es c.push.new.self.items c.apply_copy.new.self) (sym events)
          (subst (λ os. Outcomes c.args.self.now (take c.loop-event.event-index c.args.events.now ++ c.event-item.result ∷ []) os c.apply_copy.new.self) (sym items) ran),
      search rules,
    )
