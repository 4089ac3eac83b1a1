-- What must be believed of the world, in the order in which to read it: first names, values,
-- clocks, the past, frames, stores, nodes and images, which the contracts of this crate speak of
-- too
pub use Rattle.meta_types.specs.Name
pub use Rattle.meta_types.specs.Value
pub use Rattle.dvvset.specs.Object
pub use Rattle.dvvset.specs.Clock
pub use Rattle.dvvset.specs.Writer
pub use Rattle.past_model.specs.Sets
pub use Rattle.past_model.specs.Past
pub use Rattle.past_model.specs.History
pub use Rattle.past_model.specs.Shown
pub use Rattle.meta_frame.specs.Frame
pub use Rattle.meta_store.specs.Table
pub use Rattle.meta_store.specs.Step
pub use Rattle.node_core.specs.Step as NodeStep
pub use Rattle.node_core.specs.Leaving
pub use Rattle.restart_images.specs.Images
pub use Rattle.restart_images.specs.Keeping
pub use Rattle.restart_images.specs.Node
-- reads and frames by their number
pub mod Numbers
-- what an event is to its node
pub mod Events
-- how accepted events tell a history
pub mod Tells
-- what the accepted events were to a node, and its lives
pub mod Lives
-- a world
pub mod World
-- the refusals
pub mod Fault
-- which refusal an event meets
pub mod Refusal
-- what nodes, contexts, frames and replies say of the past
pub mod Knowledge
-- what a world answers, and what it then is
pub mod Outcome
-- what need not be believed: what a world always keeps to, by the machine of objects (`Images`
-- above takes the word `Holding` from it)
pub use Rattle.past_model.specs.Objects
pub use Rattle.restart_images.specs.Follows
pub mod Invariant
-- what the view of a world and private functions cite: the lists of a world
pub mod Chronicle
-- what private functions alone cite: that what an event names is there, and how frames are kept
pub mod Steps
pub mod Sharing
