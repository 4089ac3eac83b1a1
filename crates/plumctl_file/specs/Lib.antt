-- the lines of a report
pub mod Report
-- what a reader gave of a file
pub mod Read
-- what was printed of it, and how that stops
pub mod Reported
-- how the program ends
pub mod Ends
