-- readers and the forms that they read, and how they are put together
pub mod Readers
-- fields read one after another, as a loop does
pub mod Loops
-- the readers of the fields belong to their forms
pub mod Fields
-- the same for nodes, digests and rows that rise
pub mod Listed
-- what was read keeps the rules of its type
pub mod Found
