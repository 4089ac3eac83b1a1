-- What must be believed of the language of scenarios, in the order in which to read it.
-- the lines of a text
pub use Rattle.streams.specs.Line
-- a word, and what it can stand for
pub mod Word
-- words one after the other
pub mod Reading
-- the commands and their words
pub mod Commands
-- the lines of a text: which is which command, and which breaks a rule
pub mod Script
-- how a command is written, so that it reads back
pub mod Spelling
-- what the types of the code stand for
pub mod Coded
-- what is printed about a line that breaks a rule
pub mod Hint
