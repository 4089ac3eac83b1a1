-- How a tree keeps its rows: by full prefix, and under each by leaf.
use Rattle.std.specs.Prelude.{◌≡◌, ◌≢◌, ℕ, ◌*◌, ◌/◌, ◌<◌, ◌≤◌, take, drop, true, List, [], ◌∷◌, length, map, All, None, slice_index_or, slice_set}
use Rattle.std.specs.List.{concat, flat_map, insert, range_with_len, remove}
use Rattle.std.specs.Option.{unwrap_or}
use Rattle.std.specs.Ordering.{nat_cmp}
use Rattle.std.specs.FinMap.{find, is_sorted, put}
use Rattle.sha2.specs.Sha256.{sha256}
use Rattle.meta_types.specs.Order.{bytes_cmp, prefix_cmp}
use Rattle.frame_fields.specs.Field.{key_row_parts}
use Rattle.frame_fields.specs.declared.keys.KeyDigest.{KeyDigest}
use Rattle.meta_store.specs.Kept.{AreRows, PartsOf, without_row}
use Rattle.hash_tree.specs.Tree.{Digest, OwnRows, leaf_of, leaf_digest, inner_digest, inner_digests, fan, leaf_count}

-- a key stands at this place of the rows of a leaf: another digest of it is put there, and without
-- the key the others are left
pub record IsAt (key : List ℕ) (rows : List KeyDigest) (place : ℕ) : Type 0 where
  pub within : place < length rows
  pub replaced : (row : KeyDigest) → row ≡ slice_index_or rows place row → (digest : Digest)
      → put bytes_cmp key digest (map key_row_parts rows)
      ≡ map key_row_parts (slice_set rows place (record { key = row.key; digest = digest }))
  pub removed : without_row key (map key_row_parts rows) ≡ map key_row_parts (remove rows place)

-- a key stands nowhere among the rows of a leaf, and is put at this place
pub record IsAbsentAt (key : List ℕ) (rows : List KeyDigest) (place : ℕ) : Type 0 where
  pub within : place ≤ length rows
  pub inserted : (digest : Digest) → put bytes_cmp key digest (map key_row_parts rows)
      ≡ map key_row_parts (insert rows place (record { key = key; digest = digest }))
  pub absent : find bytes_cmp key (map key_row_parts rows) ≡ None

-- numbers of leaves, each with the rows of the leaf
abbrev pub RowsByLeaf : Type 0
RowsByLeaf = List (ℕ × OwnRows)

-- rows in the order of their keys
abbrev pub in_order : OwnRows → OwnRows
in_order [] = []
in_order (row ∷ rows) = put bytes_cmp row.0 row.1 (in_order rows)

-- all rows of the leaves
abbrev pub joined : RowsByLeaf → OwnRows
joined leaves = in_order (flat_map (λ leaf. leaf.1) leaves)

-- the rows of a leaf, none if it isn't kept
abbrev pub leaf_at : ℕ → RowsByLeaf → OwnRows
leaf_at leaf leaves = unwrap_or (find nat_cmp leaf leaves) []

-- the rows of a leaf, which stand there
pub record IsLeaf (leaf : ℕ × OwnRows) : Type 0 where
  pub rows : AreRows leaf.1
  pub own : All (λ row. leaf_of row.0 ≡ leaf.0) leaf.1

-- leaves, rising
pub record AreLeaves (leaves : RowsByLeaf) : Type 0 where
  pub rising : is_sorted nat_cmp leaves ≡ true
  pub each : All IsLeaf leaves

-- the digests of all leaves
abbrev pub all_leaf_digests : OwnRows → List Digest
all_leaf_digests rows = map (leaf_digest rows) (range_with_len 0 leaf_count)

-- the digests of the inner nodes over leaves of these digests
abbrev pub inner_over : List Digest → List Digest
inner_over leaves =
    map (λ inner. sha256 (concat (take fan (drop (fan * inner) leaves)))) (range_with_len 0 fan)

-- these are the digests of the leaves and of the inner nodes over these rows, once those of this
-- leaf and of its inner node are computed anew
pub record AreDigestsBut (leaf : ℕ) (rows : OwnRows) (leaf_digests inner : List Digest) : Type 0 where
  pub leaves : slice_set leaf_digests leaf (leaf_digest rows leaf) ≡ all_leaf_digests rows
  pub nodes : slice_set inner (leaf / fan) (inner_digest rows (leaf / fan)) ≡ inner_digests rows

-- full prefixes, rising, each with a key
pub record AreTreeParts (parts : PartsOf Digest) : Type 0 where
  pub rising : is_sorted prefix_cmp parts ≡ true
  pub filled : All (λ part. part.1 ≢ []) parts
