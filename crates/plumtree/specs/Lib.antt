-- What must be believed of the broadcast, in the order in which to read it.
-- words on ordered lists
pub use Rattle.peer_lists.specs.Lists
-- what a node waits for
pub mod Missing
-- the broadcast in the midst of a call, and the small steps that the rows are made of
pub mod Draft
-- the table, one definition a row
pub mod Rows
-- the broadcast of a node, and one call of it
pub mod Broadcast
-- what always holds of it
pub mod Lawful
-- coming back to where it stood
pub mod Savepoint
-- a tick in two steps: foreseen, and then made
pub mod Ticking
