-- What must be believed of watches.
-- what a watch holds, and how a change changes it
pub mod Watching
-- a change that watches are to note
pub mod News
-- who watches: the watches, numbered
pub mod Watches
-- the numbers of refusals
pub mod Fault
