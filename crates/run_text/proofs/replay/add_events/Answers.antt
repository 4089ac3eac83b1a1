use Rattle.std.proofs.Common.{◌∙◌}
use Rattle.run_text.proofs.Lines.{event_added}
use Rattle.run_text.proofs.replay.add_events.Goals as goal

pub loop-one-preserved : goal.loop-one-preserved
loop-one-preserved c =
    let one = c.one-item.result in
    let spelled = c.requires c.loop-one.one-index one c.loop-one-test.true in
    event_added c.args.accepted.now c.loop-one.one-index one c.loop-one.text.items c.add_event.new.text.items c.push.new.self.items c.loop-one-test.true c.one-item.is
    (rw (← c.one-item.is) at spelled) c.in_ok-add_event.ensures c.in_ok-push.ensures.items
    ∙ c.loop-one.invariant
