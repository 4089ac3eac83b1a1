-- What must be believed of fields, in the order in which to read it.
-- what an object and a vector are, names and values
pub use Rattle.dvvset.specs.Object
pub use Rattle.meta_types.specs.Node
pub use Rattle.meta_types.specs.Name
pub use Rattle.meta_types.specs.Value
pub use Rattle.meta_types.specs.Order
-- what a digest is
pub mod Digest
-- what a form of a field is, and how forms are put together
pub mod Form
-- the forms of the fields
pub mod Field
-- rows that rise
pub mod Rising
-- lemmas, which stand here since impls cite them: the comparisons decide equality of all parts
pub mod Equal
-- what writing asks of an entry
pub mod Size
