-- lines that are told, one after the other
pub mod Adding
-- an explained output, in pieces
pub mod Pieces
-- the frames that wait
pub mod Noting
-- the line that names them
pub mod Way
