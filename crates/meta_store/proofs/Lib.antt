-- the order of keys
pub mod Keys
-- ordered maps in the words of a table
pub mod Maps
-- a table that is kept by full prefix
pub mod Kept
-- stores that keep the same
pub mod Same
-- a store after an object was held
mod Holding
-- a store after a key was forgotten
pub mod Forgetting
-- a table after an object was put there
pub mod Tables
-- objects within a length
pub mod Sizes
-- a merge holds the object of the union
mod Unions
-- a merge by what is held under its key
mod Merging
-- a store after a write through a borrow of an object
mod Writing
