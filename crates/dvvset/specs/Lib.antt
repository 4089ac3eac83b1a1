-- What must be believed of clocks, in the order in which to read it.
-- names and values, which the contracts of this crate speak of too
pub use Rattle.meta_types.specs.Actor
pub use Rattle.meta_types.specs.Value
-- what an object and a vector are, and their rules
pub mod Object
-- the clock formulas
pub mod Clock
-- what a merge and a write do for each writer, and the shape that `same` compares
pub mod Writer
-- lemmas, which stand here since impls cite them: the comparisons decide equality of all parts
pub mod Equal
-- the numbers of refusals
pub mod Fault
-- what private functions alone cite: where a writer's entry stands
pub mod Place
