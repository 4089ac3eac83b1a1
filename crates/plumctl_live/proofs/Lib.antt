pub mod Again
pub mod Counted
pub mod Ended
mod Unmade
