-- What must be believed of an inbox, in the order in which to read it.
-- the parcels of one sender
pub mod Parcels
-- what clauses see of an inbox and of its passes
pub mod Views
-- what was put by the passes that came back, against what was taken and what is left
pub mod Balance
-- what is known of the inbox at one moment of a call
pub mod Moments
-- an inbox with its passes, as it is made
pub mod Opening
-- the numbers and names of refusals
pub mod Fault
-- that all is here, once all passes came back
pub mod Law
-- ---- what the code cites
pub mod Rule
