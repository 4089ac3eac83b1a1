-- a desk
pub mod Desk
-- how a node is started
pub mod Starting
-- a call that makes a step
pub mod Acting
-- what a batch of writes does
pub mod Batching
-- what stays of its writes, whatever a crash leaves
pub mod Lasting
-- what is left of a node
pub mod Closing
