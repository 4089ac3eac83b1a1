use Rattle.std.proofs.Common.{◌∙◌}
use Rattle.meta_types.specs.Order.{bytes_cmp}
use Rattle.meta_store.proofs.Maps.{looked_up}
use Rattle.meta_store.proofs.rows.Rows.object.Goals as goal

pub returns : goal.returns
returns c = rw (← c.self.view_is) (c.get.ensures.value ∙ looked_up bytes_cmp c.args.key.now c.self.inside.by_key.entries)
