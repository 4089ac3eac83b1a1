use Rattle.std.proofs.Common.{All, subst, sym}
use Rattle.meta_types.specs.Name.{IsName}
use Rattle.frame_fields.specs.declared.keys.KeyDigest.{KeyDigest}
use Rattle.hash_tree.proofs.ByPlace.{named_parts}
use Rattle.hash_tree.proofs.bucket.Bucket.digest.Goals as goal

pub add_rows-requires : goal.add_rows-requires
add_rows-requires c =
    subst (λ rows. All (λ (row : KeyDigest). IsName 256 row.key) rows) (sym c.as_slice.ensures.value) (named_parts c.self.inside.rows.items c.self.invariant.named)
