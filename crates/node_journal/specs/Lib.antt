-- an event that a node accepted, with what it gave
pub mod Entry
-- equality of entries
pub mod Equal
-- what is left of a node, and of all nodes
pub mod Closed
