-- What must be believed of a node with its images, in the order in which to read it.
-- names, values, clocks and the store, which the contracts of this crate speak of too
pub use Rattle.meta_types.specs.Name
pub use Rattle.meta_types.specs.Value
pub use Rattle.dvvset.specs.Object
pub use Rattle.dvvset.specs.Clock
pub use Rattle.meta_store.specs.Table
pub use Rattle.meta_store.specs.Step
pub use Rattle.past_model.specs.Objects
-- an image
pub mod Image
-- images as they are kept
pub mod Images
-- what a history tells of one node
pub mod Keeping
-- one node with its images, its steps and restarts
pub mod Node
-- where a node stands after a history, which the rule of a world cites
pub mod Follows
-- what private functions alone cite: a store that is filled from an image; and how images are kept
pub mod Restore
pub mod Logs
