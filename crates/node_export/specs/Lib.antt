-- What must be believed of the exports, in the order in which to read it.
-- what a handle owns: a box of a hosted node, or of a plan, or nothing
pub mod Held
-- what a call does with the node that a slot lends it
pub mod Lending
-- the bytes of a reply, and of what is told without a step
pub mod Spelling
-- what each export does with the node in the slot, and what it returns and hands out
pub mod Exports
-- what it does with that node and its plan
pub mod Driving
