-- which values, vectors and objects have a spelling
pub mod Spellable
-- what writing fields leaves at the end of bytes
pub mod Written
-- a test that goes along values
pub mod Tested
-- rows fit their field if they rise
pub mod Ordered
