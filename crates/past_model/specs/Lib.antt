-- What must be believed of the past, in the order in which to read it.
-- names, values, objects and their formulas, which the contracts of this crate speak of too
pub use Rattle.meta_types.specs.Actor
pub use Rattle.meta_types.specs.Name
pub use Rattle.meta_types.specs.Value
pub use Rattle.dvvset.specs.Object
pub use Rattle.dvvset.specs.Clock
pub use Rattle.dvvset.specs.Writer
-- sets of places
pub mod Sets
-- what each happening does to what the nodes know
pub mod Past
-- well-formed histories
pub mod History
-- what a set of writes shows: siblings, context, object
pub mod Shown
-- objects that arise in one history, and their order
pub mod Arisen
-- what the nodes hold: the happenings of the past over objects
pub mod Objects
-- what one more happening changes of these
pub mod ObjectLaws
-- what private functions alone cite: marks for sets of places
pub mod Moment
