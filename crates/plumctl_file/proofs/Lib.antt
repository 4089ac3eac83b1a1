-- the line of a device that failed, and what is told behind it
pub mod Device
-- the lines of keys, one more
pub mod Rows
-- how a report stops
mod Stopping
-- bytes that begin as no node file does
mod Beginning
-- what a reader gave, by what a reading tells
mod Pushed
