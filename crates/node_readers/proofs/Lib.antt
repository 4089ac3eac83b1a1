-- beginnings of one list
pub mod Beginnings
-- the exchange that adds a change keeps the rule
mod Adding
-- tables whose objects know all that those before knew
pub mod Growing
-- what is found in a table that is spread over buckets
pub mod Spreading
-- each step keeps the rule of the copies
pub mod Moves
