-- what a run prints
pub use Rattle.scenario.specs.Output
pub use Rattle.scenario.specs.Run
-- which frames are named as on their way
pub use Rattle.scenario_commands.specs.Marking
pub mod OnTheWay
-- why a command was refused
pub mod Reason
-- what an explained run prints besides
pub mod Told
-- what private functions alone cite: what is noted of a stage
pub mod Noting
