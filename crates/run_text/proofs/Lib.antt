-- words of a line, lines of a text
pub mod Lines
-- what commands ask for
pub mod Asking
-- which commands have a spelling
pub mod Spellings
-- a run that has a text is replayed by it
pub mod Replaying
