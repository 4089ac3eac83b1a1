-- what a run leaves
pub mod Run
-- what its threads do
pub mod Threads
