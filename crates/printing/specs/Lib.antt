-- numbers, names and values as text
pub mod Field
-- lists as text
pub mod Joined
-- contexts and objects as text
pub mod Object
-- node numbers, digests and rows
pub mod Row
-- frames and refusals as text
pub mod Frame
