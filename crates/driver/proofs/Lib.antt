-- what a task that is next says of its plan
mod Tasks
-- members through a change
mod Members
-- exchanges and joins go round
pub mod Rounds
-- each member has its turn
pub mod Turns
-- a hello comes first, and once
pub mod Hellos
-- a member is told down once
pub mod Downs
-- from when on something is next
pub mod Waking
-- at one time the tasks come to an end
pub mod Ending
-- changes that lead from one plan to the other
mod Leading
-- tasks are done one after the other
pub mod Working
-- what a call does is a chain of tasks, and a part of the life of the node
pub mod Living
-- a task is refused for want of memory alone
pub mod Refusing
