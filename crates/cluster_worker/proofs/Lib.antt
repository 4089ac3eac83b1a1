pub mod Places
pub mod Dealt
pub mod Made
pub mod Begun
pub mod Putting
pub mod Sent
pub mod Conveying
pub mod Working
