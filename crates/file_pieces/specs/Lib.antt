-- What must be believed of a file that comes piece by piece, in the order in which to read it. What
-- a file stands for comes from `node_file`.
pub use Rattle.meta_types.specs.Name
pub use Rattle.dvvset.specs.Object
pub use Rattle.meta_store.specs.Table
pub use Rattle.meta_store.specs.Step
pub use Rattle.node_file.specs.Record
pub use Rattle.node_file.specs.Fold
pub use Rattle.node_file.specs.File
pub use Rattle.node_file.specs.Gates
-- bytes that begin with a gate
pub mod Framing
-- one record, by the file that has it alone
pub mod Alone
-- what was read, and what is told by the bytes that follow
pub mod Progress
pub mod Told
