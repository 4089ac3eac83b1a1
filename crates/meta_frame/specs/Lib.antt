-- What must be believed of frames, in the order in which to read it.
-- what an object and a vector are, names and values, and the first refusal that applies
pub use Rattle.dvvset.specs.Object
pub use Rattle.meta_types.specs.Node
pub use Rattle.meta_types.specs.Name
pub use Rattle.meta_types.specs.Value
pub use Rattle.meta_types.specs.First
-- what a form of a field is, how forms are put together, and the forms of the fields
pub use Rattle.frame_fields.specs.Form
pub use Rattle.frame_fields.specs.Field
-- the kinds of message, frames, and which refusal comes first
pub mod Frame
-- the header of a frame alone
pub mod Header
-- a field at the front of bytes
pub mod Front
-- the numbers of refusals
pub mod Fault
-- what private functions alone cite: the forms of the fields as readers on lists, and those of
-- frames
pub use Rattle.frame_readers.specs.Reader
pub mod Reading
