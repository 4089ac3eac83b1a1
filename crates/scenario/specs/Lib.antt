-- What must be believed of scenarios, in the order in which to read it.
-- lines and how they are written
pub use Rattle.streams.specs.Line
pub use Rattle.streams.specs.Written
pub use Rattle.streams.specs.Fault as StreamFaults
-- the language: which text is which scenario
pub use Rattle.scenario_text.specs.Script
-- what a command prints, and what it leaves
pub use Rattle.scenario_commands.specs.Obeying
-- how a scenario stops early
pub mod Fault
-- the line that is printed of that
pub mod Ending
-- a whole run, and the output for a text
pub mod Output
-- how a run over a reader and a writer ends
pub mod Run
