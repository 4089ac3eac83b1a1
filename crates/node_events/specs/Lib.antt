-- What must be believed of the events of a node.
-- what an event names
pub mod Event
-- the numbers and names of refusals
pub mod Fault
-- which words and lemmas say that comparisons of lists are equality; impls cite them
pub mod Equal
-- the same of events and of replies, by their kinds
pub mod EqualEvents
