-- What must be believed of devices, in the order in which to read it.
-- what calls do to the content of a device, what a crash may leave of it, and how a call fails
pub mod Device
-- a device that notes its calls: what it holds after them, and what a crash may leave
pub mod Calls
pub mod CallLog
pub mod Noted
-- it keeps the laws of a device
pub mod Laws
-- a device over a file: which of its calls failed first, and that none follows
pub mod File
-- why a path isn't opened or made
pub mod Opening
