-- how many entries are left
mod Ahead
-- one more place in a list of places
mod Heads
-- nobody goes past a stuck place
pub mod Waiting
-- if nobody can go on
mod Stalling
-- the place of a frame
mod Finding
-- entries that need what no entry gives
mod Ungiven
-- the turns so far
mod Going
-- a stuck run has no order
mod Stuckness
-- what stands in a list that grew
pub mod Numbers
-- what follows of whole journals
pub mod Wholeness
-- journals that are runs which end with their tables
pub mod Closing
-- a journal that ran otherwise than told
pub mod Deeds
-- what a world holds, and the marks, after one entry more
pub mod Making
-- a replay, after one entry more
pub mod Replaying
-- if the next entry isn't what its journal tells
pub mod Differing
-- what the numbers of an event name
pub mod Naming
-- where a replay begins and ends
pub mod Ending
-- journals that a run has gone through up to a moment
pub mod Upto
-- each accepted event of a run is an entry
pub mod Entries
-- who supplies what an accepted event needs
pub mod Supply
-- journals that came of a run have no cause for a refusal
pub mod Causeless
