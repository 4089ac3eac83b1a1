-- the bytes of frames, by how they are kept
pub mod Keeping
-- lists side by side
pub mod Lists
-- what accepted events tell
pub mod Telling
-- what a world keeps to, happening by happening
pub mod States
-- what an event names
pub mod Named
-- a step of a node, as its event tells it
pub mod Happens
-- the lives of a node
pub mod Living
-- a world after one more event
pub mod Worlds
-- which refusal an event meets
pub mod Refusing
-- outcomes
pub mod Outcomes
-- of each event there is one outcome
pub mod Deciding
-- steps and restarts that are accepted
pub mod Accepting
-- a chronicle after one more event
pub mod Chronicles
-- the history told once more
pub mod Retelling
-- what a world lends
pub mod Shown
-- fresh deliveries
pub mod Fresh
-- 21 is never the cause
pub mod Never
-- an accepted event is one deed more of its node
pub mod Deeds
-- events one after the other
pub mod Running
