-- one output for a text
pub mod OneOutput
-- a text that is read in pieces
pub mod Reading
-- playing a scenario, command by command, and the fronts of its output
pub mod Playing
