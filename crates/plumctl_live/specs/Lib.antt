-- what is printed of a cluster of threads, and how it exits
pub mod Live
-- the run as a scenario
pub mod Recording
