-- What must be believed of a driver, in the order in which to read it.
-- what is next, and what follows
pub mod Plan
-- what comes of many tasks
pub mod Duty
-- a node with its plan: what a call of a driver does
pub mod Driving
