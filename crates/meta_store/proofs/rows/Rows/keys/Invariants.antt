use Rattle.std.proofs.Common.{◌≡◌, ◌++◌, map}
use Rattle.meta_store.proofs.rows.Rows.keys.Given as goal

abbrev pub invariant-loop-key : goal.invariant-loop-key
invariant-loop-key l = l.keys.items ++ map (λ row. record { prefix = l.prefix; key = row.0 }) l.key-iterator ≡ map (λ row. record { prefix = l.prefix; key = row.0 }) l.self
