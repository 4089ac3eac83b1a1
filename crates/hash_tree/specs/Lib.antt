-- What must be believed of trees of digests, in the order in which to read it. Keys and their
-- order, tables, how they are kept by full prefix, the forms of fields in frames and SHA-256 come
-- from the crates below.
pub use Rattle.sha2.specs.Sha256
pub use Rattle.meta_types.specs.Name
pub use Rattle.meta_types.specs.Order
pub use Rattle.dvvset.specs.Object
pub use Rattle.frame_fields.specs.Form
pub use Rattle.frame_fields.specs.Field
pub use Rattle.meta_store.specs.Table
pub use Rattle.meta_store.specs.Kept as Parts
-- each digest of a tree, from all rows at once
pub mod Tree
-- the order of the full prefixes and keys that a tree returns
pub mod Rising
-- which byte strings are hashed for two tables, and two of them that collide
pub mod Hashed
-- how a tree keeps its rows
pub mod Kept
-- what a hasher has taken in, which private contracts speak of
pub mod Hashing
