-- the lines of a text that is read line by line
pub mod LinesOf
-- bytes are sealed under keys, or they aren't
pub mod Sealing
-- each line has one text
pub mod Texts
-- a run of `frame`, line by line
pub mod Going
-- how a run ended, and the exit status that says so
pub mod Ending
-- texts that are written one behind another
pub mod Writing
-- bytes that are read into a room, and the keys that they are
pub mod Filling
