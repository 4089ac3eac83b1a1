-- What must be believed of one node, in the order in which to read it.
-- whom it talks to, and what always holds of that
pub use Rattle.node_overlay.specs.Overlay
-- its frames
pub use Rattle.node_overlay.specs.Outbox
-- who watches it
pub use Rattle.subscriptions.specs.Watches
-- one node
pub mod Node
-- a node in the midst of a step, and the small steps that the rows are made of
pub mod Draft
-- the table, one definition a row
pub mod Rows
-- one step, as four functions
pub mod Step
-- many steps, and that no event has two outcomes
pub mod Run
-- the repair of siblings
pub mod Repair
-- what a step leaves, in the words of the table: what is held, and what the frames carry
pub mod Leaving
-- what a step changes of what is held, and that this only grows
pub mod Growing
-- what a change of an object brings with it, in the order of the code
pub mod Changing
-- a step in two halves: an attempt, which is committed or taken back
pub mod Attempt
-- several steps, which are all made or all taken back
pub mod Savepoint
-- equality of what steps give
pub mod Equal
-- ---- not needed to believe the public contracts: what private functions say of what they are
-- handed
pub mod Handling
