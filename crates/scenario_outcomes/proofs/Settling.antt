-- A settling ends, or goes on past its limit.
use Rattle.std.proofs.Common.{◌≡◌, ◌≤◌, ◌⊎◌, ℕ, zero, suc, inl, inr, ◌++◌, Option, Some, None, refl, subst, arith}
use Rattle.std.specs.Prelude.{codes, decimal}
use Rattle.world_core.specs.declared.event.Event.TheVariants as events
use Rattle.scenario_commands.specs.Fault.{most_deliveries}
use Rattle.scenario_commands.specs.Meaning.{addressee}
use Rattle.scenario_commands.specs.Obeying.{GoesOn, HandsOn, HandsOnEach, Settles, Stage, waiting, with_given}
use Rattle.scenario_commands.specs.Printed.{line}
use Rattle.scenario_outcomes.specs.Outcome.{EachEventOfAWorldHasAnOutcome, WorldsStayLawful}
use Rattle.scenario_outcomes.proofs.Commands.{IsLawfulStage, Leads, leaves}

-- after so many deliveries, of these at most, none waits
pub record SettlesWithin (most : ℕ) (old : Stage) : Type 0 where
  pub delivered : ℕ
  pub within : delivered ≤ most
  pub new : Stage
  pub hands_on : HandsOnEach old delivered new
  pub none_waits : waiting new ≡ None
  pub lawful : IsLawfulStage new

-- after so many one still waits
pub record GoesOnPast (most : ℕ) (old : Stage) : Type 0 where
  pub between : Stage
  pub hands_on : HandsOnEach old most between
  pub frame : ℕ
  pub waits : waiting between ≡ Some frame

none_on : (old : Stage) → HandsOnEach old 0 old
unfolding HandsOnEach
none_on old = refl

one_on : (old between new : Stage) (frame count : ℕ) → waiting old ≡ Some frame → HandsOn old frame between
    → HandsOnEach between count new → HandsOnEach old (suc count) new
unfolding HandsOnEach
one_on old between new frame count waits on rest = (frame, between, waits, on, rest)

settled : (most : ℕ) (old : Stage) → IsLawfulStage old → waiting old ≡ None → SettlesWithin most old
settled most old lawful none = record {
  delivered = 0;
  within = omega arith;
  new = old;
  hands_on = none_on old;
  none_waits = none;
  lawful = lawful;
}

settled_later : (most : ℕ) (old between : Stage) (frame : ℕ) → waiting old ≡ Some frame → HandsOn old frame between
    → SettlesWithin most between → SettlesWithin (suc most) old
settled_later most old between frame waits on rest = record {
  delivered = suc rest.delivered;
  within = omega (arith, rest.within);
  new = rest.new;
  hands_on = one_on old between rest.new frame rest.delivered waits on rest.hands_on;
  none_waits = rest.none_waits;
  lawful = rest.lawful;
}

past_later : (most : ℕ) (old between : Stage) (frame : ℕ) → waiting old ≡ Some frame → HandsOn old frame between
    → GoesOnPast most between → GoesOnPast (suc most) old
past_later most old between frame waits on rest = record {
  between = rest.between;
  hands_on = one_on old between rest.between frame most waits on rest.hands_on;
  frame = rest.frame;
  waits = rest.waits;
}

module _ (outcomes : EachEventOfAWorldHasAnOutcome) (worlds : WorldsStayLawful) where
  hands_one_on : (old : Stage) (frame : ℕ) → IsLawfulStage old → (new : Stage) × HandsOn old frame new × IsLawfulStage new
  hands_one_on old frame lawful =
      let left = leaves outcomes worlds old (events.Deliver frame (addressee old.world frame) 0) lawful tt in
      let new : Stage = record { world = left.new.world; given = with_given frame left.new.given } in
      (new, record { outcome = left.outcome; between = left.new; comes = left.comes; new_is = refl }, left.lawful)

  settles_or_goes_on : (most : ℕ) (old : Stage) (next : Option ℕ) → IsLawfulStage old → waiting old ≡ next
      → SettlesWithin most old ⊎ GoesOnPast most old
  settles_or_goes_on most old None lawful none = inl (settled most old lawful none)
  settles_or_goes_on zero old (Some frame) lawful waits =
      inr (record { between = old; hands_on = none_on old; frame = frame; waits = waits })
  settles_or_goes_on (suc most) old (Some frame) lawful waits =
      let on = hands_one_on old frame lawful in
      elim (settles_or_goes_on most on.0 (waiting on.0) on.2 refl) [
        | inl rest ↦ inl (settled_later most old on.0 frame waits on.1 rest)
        | inr rest ↦ inr (past_later most old on.0 frame waits on.1 rest)
      ]

  at_limit : (most : ℕ) (old : Stage) → most ≡ most_deliveries → SettlesWithin most old ⊎ GoesOnPast most old
      → Leads (Settles old) ⊎ GoesOn old
  at_limit most old is (inl ends) = inl (record {
    text = line (codes "delivered " ++ decimal ends.delivered);
    new = ends.new;
    is = record {
      delivered = ends.delivered;
      within = subst (λ n. ends.delivered ≤ n) is ends.within;
      hands_on = ends.hands_on;
      none_waits = ends.none_waits;
      text_is = refl;
    };
    lawful = ends.lawful;
  })
  at_limit most old is (inr past) = inr (record {
    delivered = most;
    most = is;
    between = past.between;
    hands_on = past.hands_on;
    frame = past.frame;
    waits = past.waits;
  })

  pub settles : (old : Stage) → IsLawfulStage old → Leads (Settles old) ⊎ GoesOn old
  settles old lawful =
      at_limit most_deliveries old refl (settles_or_goes_on most_deliveries old (waiting old) lawful refl)
