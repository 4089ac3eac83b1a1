-- the key's block under a pad, byte by byte
pub mod Padding
-- the bits in which two byte strings differ
pub mod Differing
-- frames and seals in bytes
pub mod Parts
-- what bytes are that open
pub mod Opening
