use Rattle.std.proofs.Common.{All, rules, subst}
use Rattle.std.proofs.lemmas.List.Elements.{All-head, All-tail}
use Rattle.meta_store.proofs.Kept.{IsNamed}
use Rattle.scenario_commands.proofs.Listing.{key_added}
use Rattle.scenario_commands.proofs.write.add_keys.Goals as goal

pub key_under-requires : goal.key_under-requires
key_under-requires c = All-head IsNamed (c.in-Some.key.now, _) c.next.new.self (subst (All IsNamed) c.in-Some.ensures.steps c.loop-key.invariant.1)

pub loop-key-preserved : goal.loop-key-preserved
loop-key-preserved c = (
  key_added c.args.prefix.now c.loop-key.keys.items c.push.new.self.items _ c.in_ok-copy.copy c.in-Some.key.now _ c.loop-key.key-iterator c.next.new.self c.loop-key.invariant.0 c.in-Some.ensures.steps c.in_ok-copy.ensures (search rules),
  All-tail IsNamed (c.in-Some.key.now, _) c.next.new.self (subst (All IsNamed) c.in-Some.ensures.steps c.loop-key.invariant.1),
)
