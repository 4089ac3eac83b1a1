use Rattle.std.proofs.Common.{◌∙◌}
use Rattle.hash_tree.proofs.ByPlace.{listed_parts}
use Rattle.hash_tree.proofs.bucket.Bucket.rows.Goals as goal

pub returns : goal.returns
returns c = rw (← c.self.view_is) (c.as_slice.ensures.value ∙ listed_parts c.self.inside.rows.items)
