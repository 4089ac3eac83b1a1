-- which causes to refuse an event apply
mod Refusals
-- what a lawful event is to its node
mod Doings
-- a node after a step or a restart
mod Nodes
-- each event of a lawful world has an outcome, and leaves a lawful world
mod Worlds
-- lawful events have outcomes one after the other
mod Runs
-- what commands and texts bring is lawful
mod Bringing
-- a command of a lawful stage leaves a lawful stage
mod Commands
-- a settling ends, or passes its limit
mod Settling
-- each command is obeyed, and each text has an output
mod Texts
