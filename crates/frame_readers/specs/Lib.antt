-- What must be believed of the readers, in the order in which to read it.
-- what an object and a vector are, names and values
pub use Rattle.dvvset.specs.Object
pub use Rattle.meta_types.specs.Node
pub use Rattle.meta_types.specs.Name
pub use Rattle.meta_types.specs.Value
-- what a form of a field is, how forms are put together, and the forms of the fields
pub use Rattle.frame_fields.specs.Form
pub use Rattle.frame_fields.specs.Field
-- the forms of the fields as readers on lists
pub mod Reader
