-- What is said of one event, and events one after the other.
use Rattle.std.proofs.Common.{List, [], ◌∷◌, ◌++◌, Result, refl, subst}
use Rattle.world_core.specs.declared.answer.Answer.{Answer}
use Rattle.world_core.specs.declared.event.Event.{Event}
use Rattle.world_core.specs.declared.fault.WorldFault.{WorldFault}
use Rattle.world_core.specs.World.{World}
use Rattle.world_core.specs.Invariant.{IsWholeWorld}
use Rattle.world_core.specs.Outcome.{Outcome, Outcomes, Passes, WorldRunsGoOn}
use Rattle.world_core.proofs.Deeds.{deeds_by}
use Rattle.world_core.proofs.Fresh.{fresh_of}
use Rattle.world_core.proofs.Never.{never_of}
use Rattle.world_core.proofs.Outcomes.{world_of}
use Rattle.world_core.proofs.Shown.{shows_all}

pub passes : (old : World) (event : Event) (outcome : Result Answer WorldFault) (new : World) → IsWholeWorld old → Outcome old event outcome new → IsWholeWorld new → Passes old event outcome new
passes old event outcome new was comes is = record {
  comes = comes;
  deeds = deeds_by old event outcome new was comes;
  fresh = fresh_of old event outcome new was comes;
  never = never_of old event was;
  shows = shows_all new (world_of new is);
}

pub outcomes_snoc : (old : World) (events : List Event) (outcomes : List (Result Answer WorldFault)) (mid : World) (event : Event) (outcome : Result Answer WorldFault) (new : World)
    → Outcomes old events outcomes mid → Passes mid event outcome new → Outcomes old (events ++ event ∷ []) (outcomes ++ outcome ∷ []) new
outcomes_snoc old [] [] mid event outcome new ran last = (new, (subst (λ w. Passes w event outcome new) ran last, refl))
outcomes_snoc old [] (o ∷ os) mid event outcome new ran last = absurd ran
outcomes_snoc old (e ∷ es) [] mid event outcome new ran last = absurd ran
outcomes_snoc old (e ∷ es) (o ∷ os) mid event outcome new ran last = (ran.0, (ran.1.0, outcomes_snoc ran.0 es os mid event outcome new ran.1.1 last))

pub each_run_goes_on : WorldRunsGoOn
each_run_goes_on = record {
  begins = λ w. refl;
  goes_on = λ old mid new events outcomes event outcome ran last. outcomes_snoc old events outcomes mid event outcome new ran last;
}
