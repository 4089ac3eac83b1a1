use Rattle.hash_tree.proofs.Collisions.{tables_same}
use Rattle.hash_tree.proofs.laws.equal_roots_mean_equal_tables.Goals as goal

pub returns : goal.returns
returns c here there table other e = tables_same here there table other e
