use Rattle.std.proofs.Common.{◌≤◌, Option, Some, None, length, subst, ⊎_elim, arith}
use Rattle.world_core.specs.World.{World}
use Rattle.world_core.specs.declared.event.Event.{Event}
use Rattle.scenario_text.specs.Coded.{command_word}
use Rattle.scenario_commands.specs.Coded.{IsEventOf}
use Rattle.scenario_commands.proofs.Acting.{acts, acts_past, event_is, looks, no_delivery}
use Rattle.scenario_commands.proofs.Results.{on_ok}
use Rattle.scenario_commands.proofs.stage.Stage.act_or_look.Goals as goal

pub happen-requires : goal.happen-requires
happen-requires c =
    let command = command_word c.args.command.now in
    no_delivery command c.in-Ok-Some.event c.requires.here (subst (λ (e : Option Event). IsEventOf command e) c.in-Ok-Some.field-0-is c.in-Ok-Some.ensures.event)

pub returns-in-Ok-Some : goal.returns-in-Ok-Some
returns-in-Ok-Some c =
    let command = command_word c.args.command.now in
    let is = event_is c.args.self.now.world command (Some c.in-Ok-Some.event) c.requires.here (subst (λ (e : Option Event). IsEventOf command e) c.in-Ok-Some.field-0-is c.in-Ok-Some.ensures.event) in
    on_ok c.happen.result (acts c.args.self.now c.happen.new.self _ c.in-Ok-Some.event _ c.args.text.now.items c.happen.new.text.items is) c.happen.ensures

pub returns-in-Ok-None : goal.returns-in-Ok-None
returns-in-Ok-None c =
    let command = command_word c.args.command.now in
    let is = event_is c.args.self.now.world command None c.requires.here (subst (λ (e : Option Event). IsEventOf command e) c.in-Ok-None.field-0-is c.in-Ok-None.ensures.event) in
    on_ok c.look.result (looks c.args.self.now _ _ c.args.text.now.items c.look.new.text.items is) c.look.ensures

pub returns-in-Err-NoSuchNode : goal.returns-in-Err-NoSuchNode
returns-in-Err-NoSuchNode c =
    let past = ⊎_elim (λ memory. cc) (λ past. past.1) c.in-Err-NoSuchNode.ensures.fault in
    let same = c.world.ensures.world in
    let few = subst (λ (w : World). length w.nodes ≤ 16) same (omega (arith, c.node_count-count.ensures.value, c.node_count-count.ensures.range)) in
    on_ok c.print_no_node.result
    (λ text_is. acts_past c.args.self.now (command_word c.args.command.now) c.args.text.now.items c.print_no_node.new.text.items c.world.ensures.marks few past text_is)
    c.print_no_node.ensures
