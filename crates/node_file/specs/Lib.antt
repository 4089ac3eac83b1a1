-- What must be believed of node files, in the order in which to read it. Devices and what a crash
-- may leave of them, keys, objects, tables, the forms of fields and SHA-256 come from the crates
-- below.
pub use Rattle.devices.specs.Device
pub use Rattle.meta_types.specs.Name
pub use Rattle.dvvset.specs.Object
pub use Rattle.frame_fields.specs.Field
pub use Rattle.frame_readers.specs.Reader
pub use Rattle.meta_store.specs.Table
pub use Rattle.sha2.specs.Sha256
-- objects of version 1
pub mod Old
-- what one record says, and its bytes
pub mod Record
-- records one after the other
pub mod Fold
-- a whole file: what it stands for, or its first fault
pub mod File
-- the bytes of a file by its records, and of a clean copy
pub mod Clean
-- all that its records say, one after the other
pub mod Lives
-- gates that were changed on the disk
pub mod Gates
-- refusals: their numbers and names, and which applies first
pub mod Fault
pub mod Refusal
-- what contracts see of a node's file, and when it can take another record
pub mod View
-- what is stored of a table under a key, and the file afterwards
pub mod Stored
-- many records that are appended at once
pub mod Batch
-- what private functions return
pub mod Reads
pub mod Putting
pub mod Hosted
