use Rattle.scenario_commands.proofs.Listing.{part_added}
use Rattle.scenario_commands.proofs.write.keys_of.Goals as goal

pub loop-prefix-preserved : goal.loop-prefix-preserved
loop-prefix-preserved c =
    part_added c.loop-prefix.keys.items c.add_keys.new.keys.items _ c.in-Some.prefix.now c.in-Some.rows.now c.loop-prefix.prefix-iterator c.next.new.self c.loop-prefix.invariant c.in-Some.ensures.steps c.in_ok-add_keys.ensures
