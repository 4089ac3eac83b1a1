-- what holds of all that is left
pub mod Remaining
-- what a past has not come to, and what images start from
pub mod Unused
-- writes that are left nowhere
pub mod Forgotten
-- writes that are overwritten in all that is left
pub mod Overwritten
-- the most that a node knows at most doubles in a round
pub mod Doubling
-- the rounds of the hypercube
pub mod Cube
-- exchanges along a tree
pub mod Along
-- edges of a tree along which something is passed on
pub mod Frontier
-- what is passed on along a tree, and a tree over another of its nodes
pub mod Passing
-- exchanges as happenings of the past
pub mod Meetings
-- histories that meet the premises
pub mod Examples
-- a round runs at once
pub mod Together
-- an odd number of nodes
pub mod Odd
-- the messages of an exchange, round by round
pub mod Rounding
-- a step of a node that begins an exchange, or takes a message of one
pub mod Stepping
-- frames of a world that are still to be delivered
pub mod Pending
-- a world after a run, and what it tells
pub mod Longer
-- a world after an event
pub mod Moving
-- all frames of an exchange are delivered, round by round
pub mod Delivering
-- what nodes hold, know and show
pub mod Exchanged
-- rounds of exchanges, one after the other
pub mod InTurn
-- drivers whose exchanges are all delivered in a window
pub mod Windows
-- a step of a node that writes, or takes a GOSSIP
pub mod Gossiping
-- what a write tells
pub mod Written
-- a write in a world
pub mod Writing
-- a write goes along a tree, delivery by delivery
pub mod Spreading
-- what a broadcast along a tree leaves
pub mod Broadcasting
