-- Stores that keep the same parts hold the same table, and the other way round.
use Rattle.std.proofs.Common.{◌≡◌, Bool, sym, ap, ◌∙◌}
use Rattle.std.specs.Bool.{Decides, passes}
use Rattle.std.specs.FinMap.{is_sorted}
use Rattle.meta_types.specs.Order.{prefix_cmp}
use Rattle.meta_store.specs.Table.{Table}
use Rattle.meta_store.specs.Kept.{AreParts, Parts, table_of}
use Rattle.meta_store.proofs.Kept.{same_parts}

pub tables_decide : (r : Bool) (parts others : Parts) (table other : Table) → Decides r (parts ≡ others) → AreParts parts → AreParts others → table_of parts ≡ table → table_of others ≡ other → Decides r (table ≡ other)
tables_decide r parts others table other d are others_are is other_is = (
  (λ h. sym is ∙ ap table_of (d.0 h) ∙ other_is),
  (λ e. d.1 (same_parts parts others (passes (is_sorted prefix_cmp parts) are.rising) (passes (is_sorted prefix_cmp others) others_are.rising) are.filled others_are.filled (is ∙ e ∙ sym other_is))),
)
