-- the numbers of faults, and what each stands for
pub mod Fault
-- a reader and a writer at a moment
pub mod Moment
-- what is written, whole or up to a fault
pub mod Written
-- lines
pub mod Line
