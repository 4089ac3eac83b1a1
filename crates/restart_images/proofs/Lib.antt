-- logs that grow, and what entries show of them
pub mod Growing
-- the places of values in logs
pub mod Placing
-- what images have, read from the newest down
pub mod Chains
-- how many keys a table has
pub mod Bounded
-- a store filled from an image
pub mod Restoring
-- what is kept of a node, after what a history tells of it
pub mod Keepings
-- what each change of a node keeps
pub mod Noding
-- a node after a step
pub mod Stepping
-- a node after one more happening
pub mod Following
