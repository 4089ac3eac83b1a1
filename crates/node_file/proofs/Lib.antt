-- what was read of version 1 keeps the rules of its type
mod FoundOld
mod Limits
mod Folding
mod Parting
mod Torn
mod Ending
pub mod Made
pub mod Appending
mod Writing
pub mod Lives
mod Tables
mod Clean
mod Changed
mod Payloads
pub mod Batches
pub mod ByHosts
