-- readers and the forms that they read, and how they are put together
pub use Rattle.frame_readers.proofs.Readers
-- the table of kinds, with the laws of each reader
pub mod Rows
-- frames: what is read is spelled so, and the refusals are the first that apply
pub mod Frames
-- what a reader of a field answered, in the words of its form
pub mod Fronts
-- a header before other bytes
pub mod Headers
