-- a step is made of what it did
pub mod Making
-- a change in the order of the code is that of the table
pub mod Changing
-- what a change gives out may be sent
pub mod Spreading
-- the steps that change an object are those of the table
pub mod Stepping
-- an object that came
pub mod Arriving
-- the messages of the broadcast that carry no object, and the questions of an exchange
pub mod Casting
-- what a question is answered may be sent
pub mod Answering
-- an event of the views, a tick and HELLO are those of the table
pub mod Viewing
-- an attempt of a step makes it, and can be undone
pub mod Attempting
-- what a watch hands out is what the step replies
pub mod Handing
-- what comes of bytes that spell a frame, and the key whose object a step changes
pub mod Coming
-- no event has two outcomes, and a run goes on
pub mod Outcomes
-- the sibling that is chosen is the one that is read
pub mod Repairing
-- what is given out in a step carries no object, or the one that is held
pub mod Giving
-- what a step leaves is what its event does
pub mod Leaves
-- runs: their events determine them, they join and split, and they count
pub mod Runs
-- what a step changes, and that what is held only grows
pub mod Growing
-- a table each of whose keys is held in another
pub mod Within
-- a store that is filled in the order of a table holds what was gone over
pub mod Filling
-- steps are taken back, the last one first
pub mod RollingBack
