-- lists of members
pub mod Members
-- a list that is written in place, one element after another
pub mod Mapped
