-- What must be believed of an exchange, in the order in which to read it. Tables, trees and
-- messages come from the crates below.
pub use Rattle.meta_types.specs.Name
pub use Rattle.meta_types.specs.Order
pub use Rattle.dvvset.specs.Object
pub use Rattle.past_model.specs.Sets
pub use Rattle.past_model.specs.History
pub use Rattle.past_model.specs.Shown
pub use Rattle.frame_fields.specs.Field
pub use Rattle.meta_frame.specs.Frame
pub use Rattle.meta_store.specs.Table
pub use Rattle.meta_store.specs.Step
pub use Rattle.hash_tree.specs.Tree
pub use Rattle.hash_tree.specs.Hashed
-- what differs between two sides
pub mod Sides
-- what each message is answered
pub mod Answers
-- a whole exchange, and what both sides then know
pub mod Whole
