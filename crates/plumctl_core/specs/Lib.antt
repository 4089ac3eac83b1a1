-- the lines of a text, and what is read and written
pub use Rattle.streams.specs.Line
pub use Rattle.streams.specs.Written
pub use Rattle.streams.specs.Fault
-- printed frames and refusals
pub use Rattle.printing.specs.Frame
-- seals, and the keys that bytes are
pub use Rattle.sealed_frames.specs.Seal
pub use Rattle.sealed_frames.specs.Keys
-- what is printed for a line, and for a whole input
pub mod Output
-- how a run ends
pub mod Run
-- the exit status of a program, and what it prints at standard error
pub mod Status
-- what is printed about a path that is of no use
pub mod Opening
-- the keys of sealed frames, out of a file
pub mod KeyFile
-- what a scenario prints, and how its run ends
pub use Rattle.scenario.specs.Output as ScenarioOutput
pub use Rattle.scenario.specs.Run as ScenarioRun
-- the exit status of a scenario
pub mod Scenario
