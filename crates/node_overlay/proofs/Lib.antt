-- the peers of the broadcast stay the members of the active view
mod Peering
-- a node never names itself, and what it gives out may be sent
pub mod Naming
-- in a shuffle nobody comes or goes
mod Shuffling
-- messages become frames, one after another
pub mod Numbering
-- a message that a node may send has a spelling, and not a long one
pub mod Sendable
-- frames that differ in the addressee and the number alone
pub mod Respelling
-- what was asked can be ended, and taken back
pub mod Asked
