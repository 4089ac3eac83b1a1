use Rattle.std.proofs.lemmas.Bool.Decides.{same_from_decides}
use Rattle.std.proofs.lemmas.Map.Lookups.{btree_map_eq-Decides}
use Rattle.meta_types.specs.Equal.{prefixes_decide}
use Rattle.meta_store.specs.Equal.{rows_eq-Decides, table_eq, table_eq-Decides}
use Rattle.meta_store.proofs.Same.{tables_decide}
use Rattle.meta_store.proofs.store.StorePartialEq.eq.Goals as goal

pub returns-clause-same : goal.returns-clause-same
returns-clause-same c =
    tables_decide c.eq.result c.self.inside.parts.entries c.other.inside.parts.entries c.args.self.now c.args.other.now
    (btree_map_eq-Decides prefixes_decide rows_eq-Decides c.self.inside.parts c.other.inside.parts c.eq.result c.eq.ensures)
    c.self.invariant.parts c.other.invariant.parts c.self.view_is c.other.view_is

pub returns-clause-value : goal.returns-clause-value
returns-clause-value c =
    same_from_decides c.eq.result (table_eq c.args.self.now c.args.other.now) (returns-clause-same c) (table_eq-Decides c.args.self.now c.args.other.now)
