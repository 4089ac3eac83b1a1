-- What must be believed of the outcomes of worlds and scenarios, in the order in which to read it:
-- first lawful nodes, images, outcomes of events and outputs of texts, which this crate speaks of
pub use Rattle.node_outcomes.specs.Lawful as Nodes
pub use Rattle.restart_images.specs.Keeping
pub use Rattle.world_core.specs.Outcome as Events
pub use Rattle.scenario.specs.Output
-- lawful worlds and events of worlds
pub mod Lawful
-- that each event has an outcome, and each text an output
pub mod Outcome
