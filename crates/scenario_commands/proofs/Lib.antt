-- results and tests
pub mod Results
-- marks of frames
pub mod Marks
-- what events make of a world
pub mod Passing
-- one text and one stage left, of each command
pub mod OneStage
-- lines of frames that were sent
pub mod Sending
-- what a stage is after an event, and after several
pub mod Staging
-- the keys of a store
pub mod Listing
-- what a command is, and acting on it
pub mod Acting
-- which marks a command sets
pub mod Setting
