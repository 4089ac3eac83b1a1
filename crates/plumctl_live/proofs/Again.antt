-- Whoever runs a recording makes the same world again.
use Rattle.std.proofs.Common.{◌≡◌, ℕ, List, [], ◌∷◌, ◌++◌, ap, ◌∙◌, length, map, Option, Some, None, Result, Ok, Err, IfOk, IfSome, inl, inr, refl, sym, subst}
use Rattle.world_core.specs.declared.answer.Accepted.{Accepted}
use Rattle.world_core.specs.declared.event.Event.{Event}
use Rattle.world_core.specs.Outcome.{Outcomes}
use Rattle.world_core.specs.World.{World}
use Rattle.world_core.proofs.Deciding.{one_outcome}
use Rattle.scenario_text.specs.Commands.{Command, Keep, Resolve, Root, Settle}
use Rattle.scenario_text.specs.Script.{Scenario, commands_of, first_bad, scenario_of}
use Rattle.scenario_commands.specs.Meaning.{event_of, report_of}
use Rattle.scenario_commands.specs.Obeying.{Acts, ActsOrLooks, ActsUnless, Choices, Happens, Obeys, PassesLimit, Stage, new_stage}
use Rattle.scenario.specs.Output.{IsOutput, ObeyAll, Plays, PlaysOrNothing, PlaysUnless, Runs, plain}
use Rattle.scenario.specs.declared.fault.ScenarioFault.{ScenarioFault}
use Rattle.run_record.specs.Record as records
use Rattle.run_record.specs.Record.{IsOfARun, outcome_of}
use Rattle.run_text.specs.Replay.{AskFor, Asks, Replays, roots_of, scenario_of_run}
use Rattle.cluster_worker.specs.declared.plan.ClusterPlan.{ClusterPlan}
use Rattle.scenario_text.specs.Spelling.{spelled_scenario}
use Rattle.plumctl_live.specs.Recording.{IsRecording, MakesAgain, SpellsRun, about}

-- ---- looking at roots

looks_on : (choices : Choices) (old : Stage) (nodes : List ℕ) (text : List ℕ) (ended : Option ScenarioFault) → Runs (plain choices) old (map Root nodes) text ended → (ended ≡ None) × ObeyAll (plain choices) old (map Root nodes) text old
looks_on choices old [] text ended runs = (runs.1, (runs.0, refl))
looks_on choices old (node ∷ nodes) text ended (inl (limit, text_is, ended_is)) = absurd limit
looks_on choices old (node ∷ nodes) text ended (inr (first, rest, between, obeys, others, text_is)) =
    let later = looks_on choices old nodes rest ended (subst (λ (s : Stage). Runs (plain choices) s (map Root nodes) rest ended) obeys.1 others) in
    (later.0, (first, rest, old, subst (λ (s : Stage). Obeys choices old (Root node) first s) obeys.1 obeys, later.1, text_is))

-- ---- a command that is an event

no_limit : (old : Stage) (event : Event) (command : Command) → Asks event command → PassesLimit old command → ⊥
no_limit old event Settle asks limit = absurd (cc (asks.is_event old.world))
no_limit old event command asks limit = limit

is_that_event : (choices : Choices) (old new : Stage) (event : Event) (command : Command) (text : List ℕ) → event_of old.world command ≡ Some event → Acts choices old command text new → Happens old event text new
is_that_event choices old new event (Keep node None) text is acts = absurd (cc (is))
is_that_event choices old new event (Resolve node key by) text is acts = absurd (cc (is))
is_that_event choices old new event Settle text is acts = absurd (cc (is))
is_that_event choices old new event command text is acts = subst (λ (e : Option Event). ActsOrLooks old e (report_of old.world command) text new) is acts

happens : (choices : Choices) (old new : Stage) (event : Event) (command : Command) (text : List ℕ) → Asks event command → Obeys choices old command text new → Happens old event text new
happens choices old new event command text asks obeys =
    is_that_event choices old new event command text (asks.is_event old.world) (subst (λ fault. ActsUnless fault choices old command text new) asks.is_taken obeys)

-- ---- all that was accepted

-- the run of the commands is the run of the events, up to this world
record ComesTo (choices : Choices) (old : Stage) (commands : List Command) (text : List ℕ) (ended : Option ScenarioFault) (w : World) : Type 0 where
  whole : ended ≡ None
  stage : Stage
  obeyed : ObeyAll (plain choices) old commands text stage
  world : stage.world ≡ w

comes_to : (choices : Choices) (nodes : ℕ) (old : Stage) (w : World) (accepted : List Accepted) (commands : List Command) (text : List ℕ) (ended : Option ScenarioFault) → AskFor commands (map records.event_of accepted) (roots_of nodes)
    → Outcomes old.world (map records.event_of accepted) (map outcome_of accepted) w → Runs (plain choices) old commands text ended → ComesTo choices old commands text ended w
comes_to choices nodes old w [] commands text ended asks same runs =
    let looks = looks_on choices old _ text ended (subst (λ (cs : List Command). Runs (plain choices) old cs text ended) (sym asks) runs) in
    record {
      whole = looks.0;
      stage = old;
      obeyed = subst (λ (cs : List Command). ObeyAll (plain choices) old cs text old) asks looks.1;
      world = sym same;
    }
comes_to choices nodes old w (a ∷ accepted) [] text ended asks passes runs = absurd asks
comes_to choices nodes old w (a ∷ accepted) (command ∷ commands) text ended asks passes (inl (limit, text_is, ended_is)) = absurd (no_limit old a.event command asks.0 limit)
comes_to choices nodes old w (a ∷ accepted) (command ∷ commands) text ended asks passes (inr (first, rest, between, obeys, others, text_is)) =
    let here = happens choices old between a.event command first asks.0 obeys in
    let same = one_outcome old.world between.world passes.0 a.event here.outcome (Ok a.answer) here.comes.outcome_is passes.1.0.comes here.comes.had_memory (λ e. cc) in
    let later = comes_to choices nodes between w accepted commands rest ended asks.1 (subst (λ (v : World). Outcomes v (map records.event_of accepted) (map outcome_of accepted) w) (sym same.1) passes.1.1) others in
    record {
      whole = later.whole;
      stage = later.stage;
      obeyed = (first, rest, between, obeys, later.obeyed, text_is);
      world = later.world;
    }

-- ---- the text

plays : (choices : Choices) (nodes : ℕ) (events : List Event) (text output : List ℕ) (ended : Option ScenarioFault) → (r : Replays 2 nodes events text) → length choices ≡ 2 → IsOutput (plain choices) text output ended
    → Plays (plain choices) (record { nodes = nodes; commands = r.commands }) output ended
plays choices nodes events text output ended r two is =
    let none : first_bad (length choices) text ≡ None = subst (λ n. first_bad n text ≡ None) (sym two) r.is_whole in
    let some : scenario_of (commands_of (length choices) text) ≡ Some (record { nodes = nodes; commands = r.commands }) =
    subst (λ n. scenario_of (commands_of n text) ≡ Some (record { nodes = nodes; commands = r.commands })) (sym two) r.is_scenario in
    subst (λ (s : Option Scenario). PlaysOrNothing (plain choices) s output ended) some (subst (λ (bad : Option ℕ). PlaysUnless bad (plain choices) text output ended) none is)

makes_again : (nodes : ℕ) (w : World) (text : List ℕ) → Replays 2 nodes (map records.event_of w.accepted) text → IsOfARun nodes w → (choices : Choices) (output : List ℕ) (ended : Option ScenarioFault)
    → length choices ≡ 2 → IsOutput (plain choices) text output ended → MakesAgain choices nodes w text output ended
makes_again nodes w text r ran choices output ended two is =
    let played = plays choices nodes (map records.event_of w.accepted) text output ended r two is in
    let comes = comes_to choices nodes (new_stage nodes) w w.accepted r.commands played.rest ended r.asks ran played.runs in
    record {
      whole = comes.whole;
      commands = r.commands;
      scenario = subst (λ n. scenario_of (commands_of n text) ≡ Some (record { nodes = nodes; commands = r.commands })) (sym two) r.is_scenario;
      printed = played.rest;
      stage = comes.stage;
      obeyed = comes.obeyed;
      world = comes.world;
      output_is = played.output_is ∙ ap (λ (xs : List ℕ). xs ++ played.rest) played.opens;
    }

-- a text that replays the world is a recording of it
pub recorded : {T E : Type 0} (items : T → List ℕ) (plan : ClusterPlan) (w : World) (result : Result (Option T) E) → IsOfARun plan.nodes w
    → IfOk result (λ found. IfSome found (λ text. items text ≡ spelled_scenario (about plan) (scenario_of_run plan.nodes (map records.event_of w.accepted))))
    → IfOk result (λ found. IfSome found (λ text. (resolvers : ℕ) → Replays resolvers plan.nodes (map records.event_of w.accepted) (items text)))
    → IfOk result (λ found. IfSome found (λ text. IsRecording plan w (items text)))
unfolding SpellsRun
recorded items plan w (Ok (Some text)) ran written replays =
    record { spells = written; replays = replays 2; makes = makes_again plan.nodes w (items text) (replays 2) ran }
recorded items plan w (Ok None) ran written replays = tt
recorded items plan w (Err fault) ran written replays = tt
