-- what a crash may leave after one call more
mod Crashes
-- one call more, in time
mod Times
-- calls one after the other
pub mod Moments
