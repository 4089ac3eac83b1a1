-- journals by the number of their node
pub mod Journals
-- what an entry needs, and what gives it
pub mod Giving
-- an order of all entries
pub mod Order
-- why there is none
pub mod Refusal
-- what a world holds, the refusals in their order, and whose journals have no cause
pub mod Record
-- the numbers and names of refusals
pub mod Fault
-- ---- what private functions cite
pub mod Passing
pub mod Replay
