pub mod Runs
pub mod Listing
pub mod Files
pub mod Batching
