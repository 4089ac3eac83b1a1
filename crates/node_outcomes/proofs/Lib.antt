-- what the views name and send
mod Views
-- what the broadcast names and asks for
mod Peers
-- what a write and a merge leave
mod Tables
-- what the tree of a table tells
mod Told
-- what a message of an exchange is answered
mod Answers
-- messages go out as frames
mod Sending
-- a step keeps a node lawful
mod Keeping
-- each event has an outcome, and nodes stay lawful
pub mod Outcomes
