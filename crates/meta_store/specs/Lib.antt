-- What must be believed of a store, in the order in which to read it. The contracts of this crate
-- speak of names, values, the first refusal that applies, clocks, the length of an object in a
-- frame, and the past too.
pub use Rattle.meta_types.specs.Name
pub use Rattle.meta_types.specs.Value
pub use Rattle.meta_types.specs.Order
pub use Rattle.meta_types.specs.First
pub use Rattle.dvvset.specs.Object
pub use Rattle.dvvset.specs.Clock
pub use Rattle.dvvset.specs.Writer
pub use Rattle.frame_fields.specs.Form
pub use Rattle.frame_fields.specs.Field
pub use Rattle.past_model.specs.Sets
pub use Rattle.past_model.specs.Past
pub use Rattle.past_model.specs.History
pub use Rattle.past_model.specs.Shown
-- what a table is, and what is read under a key
pub mod Table
-- what a read hands out for a later write
pub mod Context
-- what a write and a merge make of a table, and when they are refused
pub mod Step
-- the numbers of refusals
pub mod Fault
-- how a store keeps its table, by full prefix, as it is gone over row by row
pub mod Kept
-- lemmas, which stand here since impls cite them: the comparisons decide equality of all parts
pub mod Equal
