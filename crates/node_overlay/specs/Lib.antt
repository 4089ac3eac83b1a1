-- What must be believed of whom a node talks to, in the order in which to read it.
-- whom it talks to, and what always holds of that
pub mod Overlay
-- the frames of its messages
pub mod Outbox
-- which call of the broadcast a change makes, and what it gives out
pub mod Origin
-- what a tick does, and when it is a shuffle
pub mod Ticking
-- what it was asked, before that is final
pub mod Pending
