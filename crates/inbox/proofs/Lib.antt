-- views by their places, the parcels of one sender, and functions changed at one place
pub mod Lists
-- of a sender that has a seat no pass came back
pub mod Once
-- each kind of step keeps the rule
pub mod Moves
-- parcels are counted sender by sender
pub mod Counts
-- the law
pub mod AllHere
-- new passes, one after the other
pub mod Passes
