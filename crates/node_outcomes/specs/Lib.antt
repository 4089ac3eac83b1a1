-- What must be believed of the outcomes of a node, in the order in which to read it.
-- lawful nodes and lawful events
pub mod Lawful
-- that each event has an outcome, after each run
pub mod Outcome
