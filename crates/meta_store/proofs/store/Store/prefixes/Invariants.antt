use Rattle.std.proofs.Common.{◌≡◌, ◌++◌}
use Rattle.meta_store.specs.Table.{prefixes_of}
use Rattle.meta_store.proofs.store.Store.prefixes.Given as goal

abbrev pub invariant-loop-prefix : goal.invariant-loop-prefix
invariant-loop-prefix l = l.prefixes.items ++ l.prefix-iterator ≡ prefixes_of l.self
