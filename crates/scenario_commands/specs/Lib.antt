-- What must be believed of a stage, in the order in which to read it.
-- printed forms, worlds and what they answer, which the definitions here speak of
pub use Rattle.printing.specs.Frame
pub use Rattle.world_core.specs.Events
pub use Rattle.world_core.specs.Outcome
-- the language: which words are which command
pub use Rattle.scenario_text.specs.Commands
-- what a command is to the world, and its result line
pub mod Meaning
-- why a command is not obeyed to its end
pub mod Fault
-- what is printed
pub mod Printed
-- what a command prints, and what it leaves
pub mod Obeying
-- which frames wait, and which marks a command sets
pub mod Marking
-- what private functions alone cite: what a command does, with the text that it adds
pub mod Coded
