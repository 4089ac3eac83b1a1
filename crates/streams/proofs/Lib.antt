-- what a writer has failed by
pub mod Failing
-- writing in pieces
pub mod Sent
-- reading in pieces, and the lines in them
pub mod Pieces
-- a line that is taken from several pieces
pub mod Taking
