use Rattle.std.proofs.Common.{◌≡◌, ◌++◌}
use Rattle.meta_store.specs.Kept.{table_of}
use Rattle.scenario_commands.proofs.Listing.{all_keys}
use Rattle.scenario_commands.proofs.write.keys_of.Given as goal

abbrev pub invariant-loop-prefix : goal.invariant-loop-prefix
invariant-loop-prefix l = l.keys.items ++ all_keys (table_of l.prefix-iterator) ≡ all_keys l.store
