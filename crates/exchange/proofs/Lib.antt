-- what a tree tells fits the fields of frames
mod Lawful
-- steps of the loops over sixteen places
mod Loops
-- the keys of two rising lists that differ, from their heads
mod Differing
-- the least key of two rising lists of rows, and what follows it
mod Heads
-- steps of the loops over what differs between two lists of rows
mod Told
-- what a message is answered is what its row says
mod Answered
-- what stands in a list
mod Members
-- what holds of each element of a list
mod Taken
-- a key at which two tables differ is found
mod Finding
-- what stands under a key after messages were taken
mod Merging
-- what both sides hold at the end
pub mod Whole
-- steps of the loops that take messages
mod Taking
-- what a whole exchange leaves on both sides, round by round
mod Ending
