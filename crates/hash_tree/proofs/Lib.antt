-- the leaves of a full prefix
pub mod ByLeaf
-- the place of a key among the rows of a leaf
mod ByPlace
-- the digests that a changed key changes
mod Changing
-- the parts of a tree, and its readers
pub mod ByPrefix
-- how a hasher that gathers follows the text
mod Taken
-- steps of the loops that hash
mod Steps
-- digests are bytes
pub mod Bytes
-- what equal texts say of their parts
pub mod Texts
-- what is found in the rows of a tree
pub mod Lookups
-- equal digests mean equal parts, or a collision
pub mod Collisions
