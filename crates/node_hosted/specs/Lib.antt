-- What must be believed of a hosted node, in the order in which to read it.
-- the numbers and names of refusals
pub mod Fault
-- the records that are to be stored, and their bytes
pub mod Unstored
-- the node, its steps, and what it hands out in which order
pub mod Hosting
-- the file of the host beside his node: what he does to store records, and what a crash leaves
pub mod HostFile
-- both over time, through all lives
pub mod Lasting
