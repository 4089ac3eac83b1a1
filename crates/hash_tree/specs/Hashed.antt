-- The byte strings whose digests make the trees of two tables, and two of them that collide. The
-- rule is our own.
use Rattle.std.specs.Prelude.{◌≡◌, ◌≢◌, ℕ, ◌<◌, ◌⊎◌, List, Some}
use Rattle.std.specs.List.{concat}
use Rattle.std.specs.FinMap.{find}
use Rattle.sha2.specs.Sha256.{sha256}
use Rattle.meta_types.specs.Name.{Prefix, Key}
use Rattle.meta_types.specs.Order.{key_cmp}
use Rattle.dvvset.specs.Object.{Entry}
use Rattle.frame_fields.specs.Field.{object}
use Rattle.meta_store.specs.Table.{Table}
use Rattle.hash_tree.specs.Tree.{OwnRows, in_leaf, inner_digests, leaf_digests, own_rows, prefix_roots, roots_text, rows_of, text_of, fan, leaf_count}

-- the rows of a full prefix in the tree of a table
abbrev pub rows_below : Prefix → Table → OwnRows
rows_below p table = own_rows p (rows_of table)

-- a byte string that is hashed for the tree of a table: an object, a key's own bytes, or what a
-- leaf, an inner node, the root of a full prefix or the root of the tree is the digest of. For a
-- full prefix without keys these are the byte strings of an empty one
pub data IsHashed (table : Table) : List ℕ → Type 0 where
  of_object : (key : Key) (es : List Entry) → find key_cmp key table ≡ Some es
      → IsHashed table (object.spell es)
  of_key : (key : Key) (es : List Entry) → find key_cmp key table ≡ Some es
      → IsHashed table key.key
  of_leaf : (p : Prefix) (leaf : ℕ) → leaf < leaf_count
      → IsHashed table (text_of (in_leaf leaf (rows_below p table)))
  of_inner : (p : Prefix) (inner : ℕ) → inner < fan
      → IsHashed table (concat (leaf_digests (rows_below p table) inner))
  of_prefix : (p : Prefix) → IsHashed table (concat (inner_digests (rows_below p table)))
  of_root : IsHashed table (roots_text (prefix_roots (rows_of table)))

-- a byte string that is hashed for one of two tables
abbrev pub IsHashedOfEither : Table → Table → List ℕ → Type 0
IsHashedOfEither here there bytes = IsHashed here bytes ⊎ IsHashed there bytes

-- two unequal byte strings of those that are hashed for two tables have one digest
pub record Collides (here there : Table) : Type 0 where
  pub one : List ℕ
  pub other : List ℕ
  pub one_is_hashed : IsHashedOfEither here there one
  pub other_is_hashed : IsHashedOfEither here there other
  pub unequal : one ≢ other
  pub one_digest : sha256 one ≡ sha256 other
