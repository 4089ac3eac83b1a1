use Rattle.std.proofs.Common.{◌≡◌, sym, subst, rules}
use Rattle.std.specs.Option.{unwrap_or}
use Rattle.world_core.specs.declared.event.Event.TheVariants as events
use Rattle.world_core.specs.Outcome.{Outcome}
use Rattle.world_core.specs.World.{World}
use Rattle.scenario_commands.specs.Coded.{PrintsOutcome}
use Rattle.scenario_commands.specs.Meaning.{addressee}
use Rattle.scenario_commands.proofs.Passing.{can_be_marked, has_sent}
use Rattle.scenario_commands.proofs.Results.{on_ok_both}
use Rattle.scenario_commands.proofs.Staging.{comes_delivery, printed}
use Rattle.scenario_commands.proofs.stage.Stage.deliver.Goals as goal

pub tell_delivery-done-requires-clause-sent : goal.tell_delivery-done-requires-clause-sent
tell_delivery-done-requires-clause-sent c = has_sent _ _ _ c.apply-outcome.result c.apply-outcome.ensures.passes.comes

pub tell_delivery-done-requires-clause-there : goal.tell_delivery-done-requires-clause-there
tell_delivery-done-requires-clause-there c = can_be_marked _ _ c.args.frame _ _ c.apply-outcome.result c.apply-outcome.ensures.passes.comes

pub returns : goal.returns
returns c =
    let old = c.args.self.now in
    let between = c.apply-outcome.new.self in
    let new = c.tell_delivery-done.new.self in
    let node : c.match-node.node ≡ unwrap_or c.args.node (addressee old.world c.args.frame) = search rules in
    let to = unwrap_or c.args.node (addressee old.world c.args.frame) in
    let is = subst (λ n. Outcome old.world (events.Deliver c.args.frame n c.args.word) c.apply-outcome.result between.world) node c.apply-outcome.ensures.passes.comes in
    on_ok_both c.tell_delivery-done.result
    (λ given told. printed old new (events.Deliver c.args.frame to c.args.word) c.apply-outcome.result c.args.text.now.items c.tell_delivery-done.new.text.items
    (comes_delivery old between new c.args.frame to c.args.word c.apply-outcome.result is told.had_memory c.apply-outcome.ensures.given c.apply-outcome.ensures.marks c.tell_delivery-done.ensures.world given)
    (subst (λ (w : World). PrintsOutcome w c.apply-outcome.result c.args.text.now.items c.tell_delivery-done.new.text.items) (sym c.tell_delivery-done.ensures.world) told))
    c.tell_delivery-done.ensures.given c.tell_delivery-done.ensures.told
