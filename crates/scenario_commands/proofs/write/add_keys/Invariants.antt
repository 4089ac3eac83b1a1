use Rattle.std.proofs.Common.{◌≡◌, ◌++◌, All}
use Rattle.meta_store.proofs.Kept.{IsNamed}
use Rattle.scenario_commands.proofs.Listing.{keys_in}
use Rattle.scenario_commands.proofs.write.add_keys.Given as goal

abbrev pub invariant-loop-key : goal.invariant-loop-key
invariant-loop-key l = (l.keys.items ++ keys_in l.prefix l.key-iterator ≡ l.fn.keys.items ++ keys_in l.prefix l.rows) × All IsNamed l.key-iterator
