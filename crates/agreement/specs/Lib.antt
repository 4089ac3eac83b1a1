-- What must be believed of agreement, in the order in which to read it.
-- the past, of which the laws speak
pub use Rattle.past_model.specs.Past
pub use Rattle.past_model.specs.History
pub use Rattle.past_model.specs.Shown
-- which sets of writes a node may still learn from
pub mod Left
-- histories in which that is so
pub mod Stories
-- exchanges of two nodes, rounds of them, and what each node then knows
pub mod Rounds
-- rounds for up to sixteen nodes
pub mod Schedules
-- a tree of nodes, the exchanges along it, and what is passed on along it
pub mod Tree
-- an exchange of two nodes as happenings of the past
pub mod Meeting
-- a world, and what it tells
pub use Rattle.world_core.specs.World as WorldParts
pub use Rattle.world_core.specs.Knowledge
pub use Rattle.world_core.specs.Outcome
-- whole exchanges in a world
pub mod World
-- a window in which drivers begin exchanges
pub use Rattle.driver.specs.Plan
pub use Rattle.driver.specs.Duty
pub mod Window
-- a write along a tree of eager peers in a world
pub mod Broadcast
