-- What must be believed of the views, in the order in which to read it.
-- words on ordered lists
pub use Rattle.peer_lists.specs.Lists
-- the sizes of the views, and how far walks go
pub mod Limits
-- the views in the midst of a step, and the small steps that the rows are made of
pub mod Draft
-- the table, one definition a row
pub mod Rows
-- the views of a node, and one step of them
pub mod Views
-- what always holds of them, and of what a step gives out
pub mod Lawful
