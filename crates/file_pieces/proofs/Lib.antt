-- bytes that begin with a gate
mod Framing
-- records one after the other, by the first of them
mod Folds
-- a file with too many keys
mod Full
-- what is told, one record after the other
mod Turns
-- what a closed gate shows
mod Warned
-- a table of one row
mod Rows
-- a file of one record, or of none
mod Single
-- bytes that were read, and those behind them
mod Parts
