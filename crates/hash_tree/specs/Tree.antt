-- The tree of digests that stands for a table in an exchange: for each full prefix 256 leaves under
-- 16 inner nodes under a root, and a root over these. Digests are SHA-256 of FIPS 180-4; what is
-- hashed is in the form of frames. The rule is our own. Each digest is defined from all rows at
-- once.
use Rattle.std.specs.Prelude.{ℕ, ◌*◌, ◌==◌, not, List, ◌++◌, map, slice_index}
use Rattle.std.specs.List.{concat, filter, flat_map, range_with_len}
use Rattle.std.specs.Ordering.{is_eq}
use Rattle.std.specs.FinMap.{put}
use Rattle.sha2.specs.Sha256.{sha256}
use Rattle.meta_types.specs.Name.{Prefix, Key, most_key_len}
use Rattle.meta_types.specs.Order.{key_cmp, prefix_eq}
use Rattle.dvvset.specs.Object.{Entry}
use Rattle.frame_fields.specs.Field.{name, object, prefix}
use Rattle.frame_fields.specs.declared.keys.KeyDigest.{KeyDigest}
use Rattle.frame_fields.specs.declared.prefixes.PrefixDigest.{PrefixDigest}
use Rattle.meta_store.specs.Table.{Table, prefixes_of}
use Rattle.meta_store.specs.Kept.{RowsOf}

-- 32 bytes
abbrev pub Digest : Type 0
Digest = List ℕ

-- keys, each with the digest of its object; those of a table rise
abbrev pub DigestRows : Type 0
DigestRows = List (Key × Digest)

-- the digest of an object: the digest of its spelling as a field of a frame
unfoldable pub object_digest : List Entry → Digest
object_digest es = sha256 (object.spell es)

-- the digest of each object in its place
abbrev pub digest_rows : {K : Type 0} → List (K × List Entry) → List (K × Digest)
digest_rows rows = map (λ row. (row.0, object_digest row.1)) rows

-- what a tree knows of a table
abbrev pub rows_of : Table → DigestRows
rows_of table = digest_rows table

-- the rows with this digest under the key, and all else as before
abbrev pub with_digest : Key → Digest → DigestRows → DigestRows
with_digest key digest rows = put key_cmp key digest rows

-- the rows without the key and its digest
abbrev pub without_digest : Key → DigestRows → DigestRows
without_digest key rows = filter (λ row. not (is_eq (key_cmp key row.0))) rows

-- ---- under one full prefix

-- keys by their own bytes, each with the digest of its object
abbrev pub OwnRows : Type 0
OwnRows = RowsOf Digest

-- the rows of a full prefix, none if it holds no key
abbrev pub own_rows : Prefix → DigestRows → OwnRows
own_rows p rows =
    map (λ row. (row.0.key, row.1)) (filter (λ row. prefix_eq p row.0.prefix) rows)

-- the leaf in which a key stands: the first byte of SHA-256 of its own bytes
abbrev pub leaf_of : List ℕ → ℕ
leaf_of key = slice_index (sha256 key) 0

abbrev pub in_leaf : ℕ → OwnRows → OwnRows
in_leaf leaf rows = filter (λ row. leaf == leaf_of row.0) rows

-- a leaf's keys, each with the digest of its object: what XBUCKET carries
abbrev pub bucket : OwnRows → ℕ → List KeyDigest
bucket rows leaf = map (λ row. record { key = row.0; digest = row.1 }) (in_leaf leaf rows)

-- how many inner nodes a full prefix has, and how many leaves each of them
abbrev pub fan : ℕ
fan = 16

-- how many leaves a full prefix has
abbrev pub leaf_count : ℕ
leaf_count = 256

-- rows as bytes
unfoldable pub text_of : OwnRows → List ℕ
text_of rows = flat_map (λ row. (name 1 most_key_len).spell row.0 ++ row.1) rows

unfoldable pub leaf_digest : OwnRows → ℕ → Digest
leaf_digest rows leaf = sha256 (text_of (in_leaf leaf rows))

-- the digests of the sixteen leaves under an inner node: leaf i stands under inner node i / 16
abbrev pub leaf_digests : OwnRows → ℕ → List Digest
leaf_digests rows inner = map (leaf_digest rows) (range_with_len (fan * inner) fan)

unfoldable pub inner_digest : OwnRows → ℕ → Digest
inner_digest rows inner = sha256 (concat (leaf_digests rows inner))

-- the digests of the sixteen inner nodes
abbrev pub inner_digests : OwnRows → List Digest
inner_digests rows = map (inner_digest rows) (range_with_len 0 fan)

unfoldable pub prefix_root : OwnRows → Digest
prefix_root rows = sha256 (concat (inner_digests rows))

-- ---- over all full prefixes

-- the full prefixes that hold a key, in order, each with its root: what XPREFIXES carries
abbrev pub prefix_roots : DigestRows → List PrefixDigest
prefix_roots rows =
    map (λ p. record { prefix = p; digest = prefix_root (own_rows p rows) }) (prefixes_of rows)

-- full prefixes with their roots, as bytes
abbrev pub roots_text : List PrefixDigest → List ℕ
roots_text roots = flat_map (λ row. prefix.spell row.prefix ++ row.digest) roots

unfoldable pub tree_root : DigestRows → Digest
tree_root rows = sha256 (roots_text (prefix_roots rows))
