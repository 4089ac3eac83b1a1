-- bytes between separators: words, parts of names, lines
pub mod Parts
-- numbers, digit by digit
pub mod Numbers
-- names: parts between slashes
pub mod Names
-- hexadecimal digits, and the bytes that they stand for
pub mod Digits
-- words that are read one after the other
pub mod Readings
-- the rows of the table of commands
pub mod Rows
-- a line that asks for nodes asks for 1 to 16 of them
pub mod Counts
-- words that are near, and verbs one after the other
pub mod Hints
-- words with a space between two of them
pub mod Spaced
-- numbers, names and bytes, as they are written
pub mod SpelledParts
-- each row of the spelling
pub mod SpelledRows
-- a text of spelled commands
pub mod SpelledText
