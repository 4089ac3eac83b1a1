-- What must be believed of node numbers, names and values, in the order in which to read it.
-- the numbers of nodes
pub mod Node
-- writers: a node in one of its lives
pub mod Actor
-- the parts of a prefix and of a key, and their lengths
pub mod Name
-- the parts of a value, and the length of its body
pub mod Value
-- byte order, and the order of prefixes and keys
pub mod Order
-- lemmas, which stand here since impls cite them: two values tie exactly if they are equal
pub mod Ties
-- the comparisons of `==`, which are equality
pub mod Equal
-- how a call fails
pub mod Failing
-- small steps, one after the other
pub mod Chain
-- which of several refusals comes first
pub mod First
-- the head of a byte string, by which most comparisons end
pub mod Head
-- the numbers of refusals
pub mod Fault
