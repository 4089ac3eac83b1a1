-- the journal, and what its entries published
pub mod Journaled
-- what an event stores in the file
pub mod Stored
-- what is made ready before an entry is kept
pub mod Ready
-- several writes, which are all made or none
pub mod Batch
-- what an accepted call returns
pub mod Acknowledged
-- the numbers and names of refusals
pub mod Fault
