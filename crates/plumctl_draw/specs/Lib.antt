-- What must be believed of the command `draw`, beside what a run of a scenario does.
-- whether there is something to draw, and how the command ends
pub mod Asked
