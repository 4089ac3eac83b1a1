-- what is run, and when it is refused at once
pub mod Plan
-- the numbers and names of refusals
pub mod Fault
-- how the lives of nodes are begun in their devices
pub mod Serving
-- inboxes, and the passes that workers have of them
pub mod Passes
-- what a worker asks of its node
pub mod Call
-- what becomes of frames: of those that are sent, and of those that are taken
pub mod Frames
-- what comes of a worker
pub mod Worked
-- what a worker keeps through all turns
pub mod Turns
